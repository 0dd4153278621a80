-- The region of the best choice over the blocks of a range is the one that is offered.
use Rattle.std.proofs.Common.{◌≡◌, ◌∙◌, inr, ℕ, ◌+◌, ◌*◌, ◌<◌, ◌≤◌, List, [], ◌∷◌, true, cond, refl, sym, ap, subst, length, arith, Option, None, Some, option_map}
use Rattle.std.specs.Prelude.{slice_get, flat_map}
use Rattle.target_base.specs.declared.types.Reg.{Reg}
use Rattle.mir_func.specs.declared.func.Block.{Block}
use Rattle.mir_func.specs.Binding.{class_of}
use Rattle.mir_meaning.specs.Places.{domain}
use Rattle.interference.specs.declared.matrix.Matrix.{Matrix}
use Rattle.cut_place.specs.declared.net.Net.{Net}
use Rattle.cut_place.specs.Flows.{in_set, capacity_leaving}
use Rattle.split_choose.specs.declared.spans.Span.{Span}
use Rattle.split_choose.specs.declared.cuts.Region.{Region}
use Rattle.split_choose.specs.declared.cuts.RegionCut.{RegionCut as Chosen}
use Rattle.split_choose.specs.Bundles.{are_joined, ArePlaced, AreEarlier}
use Rattle.split_choose.specs.Regions.{capped, uses_of}
use Rattle.split_choose.specs.Spans.{is_clear_in}
use Rattle.split_choose.specs.Nets.{arcs_of}
use Rattle.split_choose.specs.Placings.{IsLeastCut, net_rows}
use Rattle.split_choose.specs.Choices.{register_rows, IsChosen, IsFirst, IsBestBelow}
use Rattle.split_choose.specs.Choices.{CostsAtLeast as CostsOver, AllCost as AllOver}
use Rattle.split_choose.specs.Offers.{View, Border, is_clear, is_dividable}
use Rattle.split_choose.specs.Counted.{AreCounted}
use Rattle.split_choose.specs.Cuts.{Node, Choice, IsChoice, is_node, place_by, bundle_nodes, number_of, base_cost, cost_of, IsRegion, CostsAtLeast, AllCost, IsBest, IsCutOffer}
use Rattle.split_choose.specs.Labelled.{sides_of, row_marks, region_of, IsBestRegion}
use Rattle.split_choose.proofs.Telling.{IsTold, IsUntold}
use Rattle.split_choose.proofs.Along.{Along}
use Rattle.split_choose.proofs.Priced.{uses-is}
use Rattle.split_choose.proofs.Costing.{cost-is}
use Rattle.split_choose.proofs.ChoiceNodes.{nodes-of, is-cut}
use Rattle.split_choose.proofs.SameBundle.{number-same}
use Rattle.split_choose.proofs.SmallestChoice.{node-in}
use Rattle.split_choose.proofs.BlockMarks.{labels-are}
use Rattle.split_choose.proofs.RegisterNet.{rows-along, no-inside, no-exit, net-is, base-fits, base-total, Follows, cost-total, nodes-follow}

module _ (m : Matrix) (v : ℕ) (parents freqs : List ℕ) (spans : List Span) (view : View)
    (counted : AreCounted m.live.func freqs v) (placed : ArePlaced m.live.func.blocks)
    (one : (x y : Border) → view.one_bundle (x, y) ≡ are_joined m.live.func.blocks parents (x, y)) (earlier : AreEarlier parents)
    (all : Along (λ (s : Span). s.position) (IsTold m.live.target m.live.func v view freqs spans) (IsUntold m.live.target m.live.func v view) 0 m.live.func.blocks spans)
    (cleared : (r : Reg) (k : ℕ) (b : Block) (s : Span) → IsTold m.live.target m.live.func v view freqs spans k b s → is_clear_in m v r s ≡ is_clear m.live.target m.live.func v view r b) where
  -- a bound of what choices cost over the blocks of the range is one over those of the function
  costs : (bound : ℕ) (r : Reg) → CostsOver m v parents spans bound r → CostsAtLeast m.live.target m.live.func v view r freqs bound
  costs bound r over choice is =
      let nodes = nodes-of m.live.target m.live.func v view freqs r choice in
      let P : ℕ → Type 0 = λ n. bound ≤ n in
      subst P
      (cost-total m.live.target m.live.func v view freqs counted placed spans all parents one earlier r (is_clear_in m v r) (cleared r) nodes choice
      (nodes-follow m.live.target m.live.func v view freqs counted placed spans all parents one earlier r (is_clear_in m v r) (cleared r) choice is))
      (over nodes (is-cut m.live.target m.live.func v view freqs r choice))

  all-cost : (bound : ℕ) (rs : List Reg) → AllOver m v parents spans bound rs → AllCost m.live.target m.live.func v view freqs bound rs
  all-cost bound [] over = tt
  all-cost bound (r ∷ rs) over = (costs bound r over.0, all-cost bound rs over.1)

  module _ (r : Reg) (choice : Chosen) (is : IsChosen m v parents spans r choice) where
    base-is : choice.placing.base ≡ base_cost m.live.target m.live.func v view r freqs
    base-is = is.placing.base ∙ base-fits m.live.target m.live.func v view freqs counted placed spans all parents one earlier r (is_clear_in m v r) (cleared r)

    -- what the choice costs is the base and the cut
    pub cost-parts : choice.cost ≡ choice.placing.base + choice.cut.cost
    cost-parts =
        let total = cost-is (in_set choice.cut.inside) (register_rows m v parents spans r) is.least.parts in
        let arcs : capacity_leaving (in_set choice.cut.inside) choice.placing.net.arcs ≡ capacity_leaving (in_set choice.cut.inside) (arcs_of (register_rows m v parents spans r)) = ap (capacity_leaving (in_set choice.cut.inside)) is.placing.arcs in
        let leaving = is.least.cost in
        let same = base-is in
        let base = base-total m.live.target m.live.func v view freqs counted placed spans all parents one earlier r (is_clear_in m v r) (cleared r) in
        let cost = is.cost in
        omega (arith, total, arcs, leaving, same, base, cost)

    nodes-choice : IsChoice m.live.target m.live.func v view r (λ (n : Node). in_set choice.cut.inside (number_of m.live.target m.live.func v view r n))
    nodes-choice = record {
      together = λ x y e. ap (in_set choice.cut.inside) (number-same m.live.target m.live.func v view parents one r x y e);
      out = λ x e. ap (λ b. in_set choice.cut.inside (cond b (2 + place_by (λ (y : Border). view.one_bundle (x, y)) (bundle_nodes m.live.target m.live.func v view r)) 1)) e ∙ is.least.parts.1;
    }

    follows : Follows m.live.target m.live.func v view freqs counted placed spans all parents one earlier r (is_clear_in m v r) (cleared r) (in_set choice.cut.inside) (λ (n : Node). in_set choice.cut.inside (number_of m.live.target m.live.func v view r n))
    follows = record { entry = λ k b at live. refl; exit = λ k b at live. refl; inner = λ k b at has. refl }

    nodes-cost : cost_of m.live.target m.live.func v view r freqs (λ (n : Node). in_set choice.cut.inside (number_of m.live.target m.live.func v view r n)) ≡ choice.placing.base + choice.cut.cost
    nodes-cost =
        sym (cost-total m.live.target m.live.func v view freqs counted placed spans all parents one earlier r (is_clear_in m v r) (cleared r) (in_set choice.cut.inside) (λ (n : Node). in_set choice.cut.inside (number_of m.live.target m.live.func v view r n)) follows)
        ∙ (sym is.cost ∙ cost-parts)

    -- what is in is in each choice of this cost
    nodes-smallest : (other : Choice) → IsChoice m.live.target m.live.func v view r other → cost_of m.live.target m.live.func v view r freqs other ≡ choice.placing.base + choice.cut.cost
        → (node : Node) → is_node m.live.target m.live.func v view r node ≡ true → in_set choice.cut.inside (number_of m.live.target m.live.func v view r node) ≡ true → other node ≡ true
    nodes-smallest other fits same node named inner =
        let nodes = nodes-of m.live.target m.live.func v view freqs r other in
        let cut = is-cut m.live.target m.live.func v view freqs r other in
        let total = cost-is nodes (register_rows m v parents spans r) cut in
        let follow = cost-total m.live.target m.live.func v view freqs counted placed spans all parents one earlier r (is_clear_in m v r) (cleared r) nodes other
        (nodes-follow m.live.target m.live.func v view freqs counted placed spans all parents one earlier r (is_clear_in m v r) (cleared r) other fits) in
        let arcs : capacity_leaving nodes choice.placing.net.arcs ≡ capacity_leaving nodes (arcs_of (register_rows m v parents spans r)) = ap (capacity_leaving nodes) is.placing.arcs in
        let base = base-total m.live.target m.live.func v view freqs counted placed spans all parents one earlier r (is_clear_in m v r) (cleared r) in
        let own = base-is in
        let leaves : capacity_leaving nodes choice.placing.net.arcs ≡ choice.cut.cost = omega (arith, total, follow, arcs, base, own, same) in
        sym (node-in m.live.target m.live.func v view freqs r spans parents placed one earlier (is_clear_in m v r) (cleared r) all other fits node named)
        ∙ is.least.smallest nodes cut leaves (number_of m.live.target m.live.func v view r node) inner

    pub region-is : IsRegion m.live.target m.live.func v view r freqs (region_of m.live.target m.live.func v view choice)
    region-is =
        let Least : Net → Type 0 = λ net. IsLeastCut net choice.cut in
        let Bound : ℕ → Type 0 = λ n. CostsAtLeast m.live.target m.live.func v view r freqs n in
        let rows = net_rows parents (is_clear_in m v r) spans (2 * length m.live.func.blocks) in
        record {
          register = is.register;
          cut = subst Least (net-is m.live.target m.live.func v view freqs counted placed spans all parents one earlier r (is_clear_in m v r) (cleared r) choice.placing.net is.placing.nodes is.placing.arcs) is.least;
          base = base-is;
          choice = nodes-choice;
          cost = nodes-cost;
          least = subst Bound cost-parts (costs choice.cost r is.fewest);
          smallest = nodes-smallest;
          labels = ap (λ rs. flat_map (λ row. row_marks m.live.target m.live.func v view row (sides_of choice.cut.inside row) (slice_get m.live.func.blocks row.position)) rs) is.placing.rows
              ∙ labels-are m.live.target m.live.func v view freqs r choice.cut.inside rows
              (rows-along m.live.target m.live.func v view freqs counted placed spans all parents one earlier r (is_clear_in m v r) (cleared r))
              (no-inside m.live.target m.live.func v view freqs counted placed spans all parents one earlier r (is_clear_in m v r) (cleared r))
              (no-exit m.live.target m.live.func v view freqs counted placed spans all parents one earlier r (is_clear_in m v r) (cleared r));
        }

  -- the best of some registers
  best-is : (rs : List Reg) (choice : Chosen) → IsFirst m v parents spans rs choice → choice.cost < capped (uses_of spans) → IsBest m.live.target m.live.func v view freqs rs (region_of m.live.target m.live.func v view choice)
  best-is rs choice first cheaper =
      let parts = cost-parts choice.register choice first.chosen in
      let uses = uses-is m.live.target m.live.func v view freqs counted spans all in
      let Before : ℕ → Type 0 = λ n. AllCost m.live.target m.live.func v view freqs (n + 1) first.earlier in
      let Behind : ℕ → Type 0 = λ n. AllCost m.live.target m.live.func v view freqs n first.later in
      record {
        earlier = first.earlier;
        later = first.later;
        split = first.split;
        is = region-is choice.register choice first.chosen;
        before = subst Before parts (all-cost (choice.cost + 1) first.earlier first.before);
        behind = subst Behind parts (all-cost choice.cost first.later first.behind);
        cheaper = omega (arith, parts, uses, cheaper);
      }

  pub offer-is : is_dividable m.live.target m.live.func v view ≡ true → (q : Option Region)
      → IsBestRegion m.live.target m.live.func v view m v parents spans (capped (uses_of spans)) (domain m.live.target (class_of m.live.func v)) q → IsCutOffer m.live.target m.live.func v view freqs q
  offer-is divides q best =
      let P : Option Region → Type 0 = λ o. IsCutOffer m.live.target m.live.func v view freqs o in
      subst P (sym best.same) (go best.choice best.best)
    where
      go : (choice : Option Chosen) → IsBestBelow m v parents spans (capped (uses_of spans)) (domain m.live.target (class_of m.live.func v)) choice
          → IsCutOffer m.live.target m.live.func v view freqs (option_map (region_of m.live.target m.live.func v view) choice)
      go None over =
          let Bound : ℕ → Type 0 = λ n. AllCost m.live.target m.live.func v view freqs n (domain m.live.target (class_of m.live.func v)) in
          inr (subst Bound (uses-is m.live.target m.live.func v view freqs counted spans all) (all-cost (capped (uses_of spans)) (domain m.live.target (class_of m.live.func v)) over))
      go (Some choice) some = (divides, best-is (domain m.live.target (class_of m.live.func v)) choice some.0 some.1)
