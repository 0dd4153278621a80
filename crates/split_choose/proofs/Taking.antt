-- Which choice is taken, register by register.
use Rattle.std.proofs.Common.{◌≡◌, ◌∙◌, ℕ, zero, suc, ◌+◌, ◌*◌, ◌<◌, ◌≤◌, List, [], ◌∷◌, ◌++◌, Bool, true, arith, refl, sym, ap, subst, length, take, get_or, append_assoc, Option, Some, None}
use Rattle.std.proofs.lemmas.List.{take_more, take_all}
use Rattle.target_base.specs.declared.types.Reg.{Reg}
use Rattle.interference.specs.declared.matrix.Matrix.{Matrix}
use Rattle.cut_place.specs.declared.net.Arc.{Arc}
use Rattle.cut_place.specs.declared.net.Cut.{Cut}
use Rattle.cut_place.specs.Flows.{IsCut, in_set, capacity_leaving}
use Rattle.split_choose.specs.declared.spans.Span.{Span}
use Rattle.split_choose.specs.declared.nets.RegionNet.{RegionNet}
use Rattle.split_choose.specs.declared.cuts.RegionCut.{RegionCut}
use Rattle.split_choose.specs.Spans.{is_clear_in}
use Rattle.split_choose.specs.Regions.{capped}
use Rattle.split_choose.specs.Nets.{arcs_of, base_of, is_small}
use Rattle.split_choose.specs.Placings.{IsPlacing, IsLeastCut, node_count, choice_cost}
use Rattle.split_choose.specs.Choices.{register_rows, register_net, CostsAtLeast, IsChosen, AllCost, IsFirst, IsBestBelow, IsChosenBelow}
use Rattle.split_choose.proofs.Costing.{cost-is}

exact-sum : (a b base cost : ℕ) → base ≡ capped a → cost ≡ capped (base + b) → cost < 340282366920938463463374607431768211455 → cost ≡ a + b
exact-sum a b base cost e f h = omega arith

low-sum : (a b base cost : ℕ) → base ≡ capped a → cost ≡ capped (base + b) → cost ≤ a + b
low-sum a b base cost e f = omega arith

module _ (m : Matrix) (v : ℕ) (parents : List ℕ) (spans : List Span) where
  -- one register
  module _ (r : Reg) (placing : RegionNet) (placed : IsPlacing parents (is_clear_in m v r) spans (2 * length m.live.func.blocks) placing) where
    pub small-is : is_small (register_net m v parents spans r) ≡ true → is_small placing.net ≡ true
    small-is h = ap (λ n. is_small (record { nodes = n; arcs = placing.net.arcs })) placed.nodes
        ∙ (ap (λ (xs : List Arc). is_small (record { nodes = node_count parents (is_clear_in m v r) spans (2 * length m.live.func.blocks); arcs = xs })) placed.arcs ∙ h)

    module _ (found : Cut) (least : IsLeastCut placing.net found) (cost : ℕ) (is : cost ≡ capped (placing.base + found.cost)) where
      total-least : (nodes : ℕ → Bool) → IsCut nodes → base_of (register_rows m v parents spans r) + found.cost ≤ choice_cost nodes (register_rows m v parents spans r)
      total-least nodes cut =
          let a = least.least nodes cut in
          let b : capacity_leaving nodes placing.net.arcs ≡ capacity_leaving nodes (arcs_of (register_rows m v parents spans r)) = ap (capacity_leaving nodes) placed.arcs in
          let d = cost-is nodes (register_rows m v parents spans r) cut in
          omega (arith, a, b, d)

      pub costs-as-much : (bound : ℕ) → bound ≤ cost → CostsAtLeast m v parents spans bound r
      costs-as-much bound h nodes cut =
          let a = low-sum (base_of (register_rows m v parents spans r)) found.cost placing.base cost placed.base is in
          let b = total-least nodes cut in
          omega (arith, a, b, h)

      pub chosen : cost < 340282366920938463463374607431768211455 → IsChosen m v parents spans r (record { register = r; placing = placing; cut = found; cost = cost })
      chosen h =
          let a = exact-sum (base_of (register_rows m v parents spans r)) found.cost placing.base cost placed.base is h in
          let b : capacity_leaving (in_set found.inside) placing.net.arcs ≡ capacity_leaving (in_set found.inside) (arcs_of (register_rows m v parents spans r)) = ap (capacity_leaving (in_set found.inside)) placed.arcs in
          let d = cost-is (in_set found.inside) (register_rows m v parents spans r) least.parts in
          let e = least.cost in
          record {
            register = refl;
            placing = placed;
            least = least;
            cost = omega (arith, a, b, d, e);
            fewest = λ nodes cut. (let z = total-least nodes cut in omega (arith, a, z));
          }

  -- all registers

  all-weaker : (a b : ℕ) (rs : List Reg) → b ≤ a → AllCost m v parents spans a rs → AllCost m v parents spans b rs
  all-weaker a b [] le all = tt
  all-weaker a b (r ∷ rs) le all = (λ nodes cut. (let h = all.0 nodes cut in omega (arith, h, le)), all-weaker a b rs le all.1)

  all-append : (a : ℕ) (rs ss : List Reg) → AllCost m v parents spans a rs → AllCost m v parents spans a ss → AllCost m v parents spans a (rs ++ ss)
  all-append a [] ss p q = q
  all-append a (r ∷ rs) ss p q = (p.0, all-append a rs ss p.1 q)

  all-more : (a : ℕ) (rs : List Reg) (r : Reg) → AllCost m v parents spans a rs → CostsAtLeast m v parents spans a r → AllCost m v parents spans a (rs ++ r ∷ [])
  all-more a rs r p q = all-append a rs (r ∷ []) p (q, tt)

  -- the best so far, with what the next has to cost less than
  abbrev pub Picks : ℕ → ℕ → List Reg → Option RegionCut → Type 0
  Picks most bound rs None = (bound ≡ most) × AllCost m v parents spans most rs
  Picks most bound rs (Some choice) = (bound ≡ choice.cost) × IsFirst m v parents spans rs choice × (choice.cost < most)

  taken-step : (rs : List Reg) (k : ℕ) (r : Reg) → k < length rs → r ≡ get_or rs k r → take (k + 1) rs ≡ take k rs ++ r ∷ []
  taken-step rs k r h at = take_more rs k r h ∙ ap (λ y. take k rs ++ y ∷ []) (sym at)

  passed : (most bound : ℕ) (rs : List Reg) (r : Reg) (best : Option RegionCut) → CostsAtLeast m v parents spans bound r → Picks most bound rs best → Picks most bound (rs ++ r ∷ []) best
  passed most bound rs r None costs picks =
      let P : ℕ → Type 0 = λ n. CostsAtLeast m v parents spans n r in
      (picks.0, all-more most rs r picks.1 (subst P picks.0 costs))
  passed most bound rs r (Some choice) costs picks =
      let P : ℕ → Type 0 = λ n. CostsAtLeast m v parents spans n r in
      let first = picks.1 in (
        picks.0,
        record {
          earlier = first.earlier;
          later = first.later ++ r ∷ [];
          split = ap (λ xs. xs ++ r ∷ []) first.split ∙ append_assoc first.earlier (choice.register ∷ first.later) (r ∷ []);
          chosen = first.chosen;
          before = first.before;
          behind = all-more choice.cost first.later r first.behind (subst P picks.0 costs);
        },
        picks.2,
      )

  before-all : (most bound cost : ℕ) (rs : List Reg) (best : Option RegionCut) → cost < bound → Picks most bound rs best → AllCost m v parents spans (cost + 1) rs × (bound ≤ most)
  before-all most bound cost rs None h picks = let e = picks.0 in (all-weaker most (cost + 1) rs (omega (arith, e, h)) picks.1, omega (arith, e))
  before-all most bound cost rs (Some choice) h picks =
      let e = picks.0 in
      let first = picks.1 in
      let less = picks.2 in
      let P : List Reg → Type 0 = λ xs. AllCost m v parents spans (cost + 1) xs in
      let own : CostsAtLeast m v parents spans (cost + 1) choice.register = λ nodes cut. (let z = first.chosen.fewest nodes cut in omega (arith, z, e, h)) in (
        subst P (sym first.split) (all-append (cost + 1) first.earlier (choice.register ∷ first.later)
            (all-weaker (choice.cost + 1) (cost + 1) first.earlier (omega (arith, e, h)) first.before)
            (own, all-weaker choice.cost (cost + 1) first.later (omega (arith, e, h)) first.behind)),
        omega (arith, e, less),
      )

  taken : (most bound : ℕ) (rs : List Reg) (r : Reg) (best : Option RegionCut) (choice : RegionCut) → IsChosen m v parents spans r choice → choice.cost < bound → Picks most bound rs best
      → Picks most choice.cost (rs ++ r ∷ []) (Some choice)
  taken most bound rs r best choice is h picks =
      let all = before-all most bound choice.cost rs best h picks in
      let P : Reg → Type 0 = λ x. IsChosen m v parents spans x choice in (
        refl,
        record {
          earlier = rs;
          later = [];
          split = ap (λ x. rs ++ x ∷ []) (sym is.register);
          chosen = subst P (sym is.register) is;
          before = all.0;
          behind = tt;
        },
        (let le = all.1 in omega (arith, le, h)),
      )

  -- the steps of a loop over them

  pub pick_first : (most : ℕ) (rs : List Reg) → Picks most most (take 0 rs) None
  pick_first most rs = (refl, tt)

  pub pick_passed : (most bound : ℕ) (rs : List Reg) (k : ℕ) (r : Reg) (best : Option RegionCut) → k < length rs → r ≡ get_or rs k r → CostsAtLeast m v parents spans bound r → Picks most bound (take k rs) best → Picks most bound (take (k + 1) rs) best
  pick_passed most bound rs k r best h at costs picks =
      let P : List Reg → Type 0 = λ xs. Picks most bound xs best in
      subst P (sym (taken-step rs k r h at)) (passed most bound (take k rs) r best costs picks)

  pub pick_taken : (most bound : ℕ) (rs : List Reg) (k : ℕ) (r : Reg) (best : Option RegionCut) (choice : RegionCut) → k < length rs → r ≡ get_or rs k r → IsChosen m v parents spans r choice → choice.cost < bound → Picks most bound (take k rs) best
      → Picks most choice.cost (take (k + 1) rs) (Some choice)
  pick_taken most bound rs k r best choice h at is less picks =
      let P : List Reg → Type 0 = λ xs. Picks most choice.cost xs (Some choice) in
      subst P (sym (taken-step rs k r h at)) (taken most bound (take k rs) r best choice is less picks)

  pub pick_last : (most bound : ℕ) (rs : List Reg) (k : ℕ) (best : Option RegionCut) → length rs ≤ k → Picks most bound (take k rs) best → IsBestBelow m v parents spans most rs best
  pick_last most bound rs k None h picks =
      let P : List Reg → Type 0 = λ xs. AllCost m v parents spans most xs in
      subst P (take_all k rs h) picks.1
  pick_last most bound rs k (Some choice) h picks =
      let P : List Reg → Type 0 = λ xs. IsFirst m v parents spans xs choice in
      (subst P (take_all k rs h) picks.1, picks.2)

  -- one step, whether there is a choice that costs less or not
  at-place : (rs : List Reg) (k : ℕ) (d : Reg) → k < length rs → get_or rs k d ≡ get_or rs k (get_or rs k d)
  at-place [] k d h = absurd (omega arith)
  at-place (r ∷ rs) zero d h = refl
  at-place (r ∷ rs) (suc k) d h = same-place rs k d (get_or rs k d) (omega arith)
    where
      same-place : (ss : List Reg) (j : ℕ) (x y : Reg) → j < length ss → get_or ss j x ≡ get_or ss j y
      same-place [] j x y w = absurd (omega arith)
      same-place (s ∷ ss) zero x y w = refl
      same-place (s ∷ ss) (suc j) x y w = same-place ss j x y (omega arith)

  pub pick_some : (most bound : ℕ) (rs : List Reg) (k : ℕ) (d : Reg) (best found : Option RegionCut) (choice : RegionCut) → k < length rs → found ≡ Some choice → IsChosenBelow m v parents spans bound (get_or rs k d) found
      → Picks most bound (take k rs) best → Picks most choice.cost (take (k + 1) rs) (Some choice)
  pick_some most bound rs k d best found choice h is below picks =
      let P : Option RegionCut → Type 0 = λ q. IsChosenBelow m v parents spans bound (get_or rs k d) q in
      let some = subst P is below in
      pick_taken most bound rs k (get_or rs k d) best choice h (at-place rs k d h) some.0 some.1 picks

  pub pick_none : (most bound : ℕ) (rs : List Reg) (k : ℕ) (d : Reg) (best found : Option RegionCut) → k < length rs → found ≡ None → IsChosenBelow m v parents spans bound (get_or rs k d) found
      → Picks most bound (take k rs) best → Picks most bound (take (k + 1) rs) best
  pick_none most bound rs k d best found h is below picks =
      let P : Option RegionCut → Type 0 = λ q. IsChosenBelow m v parents spans bound (get_or rs k d) q in
      pick_passed most bound rs k (get_or rs k d) best h (at-place rs k d h) (subst P is below) picks
