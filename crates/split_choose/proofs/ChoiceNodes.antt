-- A choice of bundles and insides, as a set of nodes of the net.
use Rattle.std.proofs.Common.{◌≡◌, ◌∙◌, ℕ, zero, suc, ◌+◌, ◌-◌, ◌*◌, ◌<◌, List, Bool, true, false, cond, refl, sym, ap, length, arith, Option, None, Some}
use Rattle.std.specs.Prelude.{slice_get, nat_eq}
use Rattle.std.proofs.lemmas.Bool.{eqb-true}
use Rattle.std.proofs.lemmas.Option.{slice_get_past}
use Rattle.target_base.specs.declared.types.Target.{Target}
use Rattle.target_base.specs.declared.types.Reg.{Reg}
use Rattle.mir_func.specs.declared.func.Block.{Block}
use Rattle.mir_func.specs.Value.{Function}
use Rattle.cut_place.specs.Flows.{IsCut}
use Rattle.split_choose.specs.declared.spans.Span.{Span}
use Rattle.split_choose.specs.Bundles.{root_of, border_place, are_joined, ArePlaced, AreEarlier}
use Rattle.split_choose.specs.Nets.{is_named, is_free}
use Rattle.split_choose.specs.Offers.{View, Border, is_clear, is_in}
use Rattle.split_choose.specs.Cuts.{Bundle, Inner, Choice, IsChoice, place_by, has_inside, bundle_nodes, inside_nodes, number_of}
use Rattle.split_choose.proofs.Telling.{IsTold, IsUntold}
use Rattle.split_choose.proofs.Along.{Along}
use Rattle.split_choose.proofs.Roots.{root_falls}
use Rattle.split_choose.proofs.Sizing.{more-below}
use Rattle.split_choose.proofs.Picking.{place-found}
use Rattle.split_choose.proofs.FirstBorders.{nodes-many, own-place, free-is}
use Rattle.split_choose.proofs.BlockRows.{insides-many, inside-below, inner-place}

module _ (t : Target) (f : Function) (v : ℕ) (view : View) (freqs : List ℕ) (r : Reg) where
  -- whether what a node stands for is in
  abbrev pub inner-at : Choice → ℕ → Bool
  inner-at choice n = elim (slice_get (inside_nodes t f v view r) n) [ None ↦ false | Some b ↦ choice (Inner b.number) ]

  abbrev pub node-at : Choice → ℕ → Bool
  node-at choice n = elim (slice_get (bundle_nodes t f v view r) n) [ None ↦ inner-at choice (n - length (bundle_nodes t f v view r)) | Some x ↦ choice (Bundle x) ]

  abbrev pub nodes-of : Choice → ℕ → Bool
  nodes-of choice zero = true
  nodes-of choice (suc zero) = false
  nodes-of choice (suc (suc n)) = node-at choice n

  pub is-cut : (choice : Choice) → IsCut (nodes-of choice)
  is-cut choice = (refl, refl)

  module _ (spans : List Span) (ps : List ℕ) (placed : ArePlaced f.blocks) (one : (x y : Border) → view.one_bundle (x, y) ≡ are_joined f.blocks ps (x, y)) (earlier : AreEarlier ps) (clear : Span → Bool)
      (cleared : (k : ℕ) (b : Block) (s : Span) → IsTold t f v view freqs spans k b s → clear s ≡ is_clear t f v view r b)
      (all : Along (λ (s : Span). s.position) (IsTold t f v view freqs spans) (IsUntold t f v view) 0 f.blocks spans) (choice : Choice) (is : IsChoice t f v view r choice) where
    pub bundle-in : (x : Border) (i : ℕ) → border_place f.blocks x ≡ Some i → i < 2 * length f.blocks → is_named ps spans (root_of ps i) ≡ true → nodes-of choice (number_of t f v view r (Bundle x)) ≡ choice (Bundle x)
    bundle-in x i at low named = go (is_in t f v view r x) refl
      where
        within : is_in t f v view r x ≡ true → place_by (λ y. view.one_bundle (x, y)) (bundle_nodes t f v view r) < length (bundle_nodes t f v view r)
        within h =
            let many = nodes-many t f v view ps placed one earlier freqs spans r clear cleared all in
            let own = own-place t f v view ps placed one earlier freqs spans r clear cleared all x i at low named h in
            let falls = root_falls ps earlier (length ps) i in
            let more = more-below (is_free ps clear spans) (root_of ps i) (2 * length f.blocks) (omega (arith, falls, low)) (free-is t f v view ps placed one earlier freqs spans r clear cleared all x i at low named h) in
            omega (arith, many, own, more)

        go : (b : Bool) → is_in t f v view r x ≡ b → nodes-of choice (cond b (2 + place_by (λ y. view.one_bundle (x, y)) (bundle_nodes t f v view r)) 1) ≡ choice (Bundle x)
        go false h = sym (is.out x h)
        go true h =
            let found = place-found (λ y. view.one_bundle (x, y)) (bundle_nodes t f v view r) (within h) in
            let e : 2 + place_by (λ y. view.one_bundle (x, y)) (bundle_nodes t f v view r) ≡ suc (suc (place_by (λ y. view.one_bundle (x, y)) (bundle_nodes t f v view r))) = omega arith in
            ap (nodes-of choice) e
            ∙ (ap (λ (o : Option Border). elim o [ None ↦ inner-at choice (place_by (λ y. view.one_bundle (x, y)) (bundle_nodes t f v view r) - length (bundle_nodes t f v view r)) | Some y ↦ choice (Bundle y) ]) found.1
            ∙ sym (is.together x found.0 found.2))

    pub inner-in : (k : ℕ) (b : Block) → slice_get f.blocks k ≡ Some b → has_inside t f v view r b ≡ true → nodes-of choice (number_of t f v view r (Inner b.number)) ≡ choice (Inner b.number)
    inner-in k b at has =
        let test : Block → Bool = λ c. nat_eq c.number b.number in
        let nodes = inside_nodes t f v view r in
        let first = length (bundle_nodes t f v view r) in
        let own = inner-place t f v view freqs r placed k b at has in
        let many = insides-many t f v view freqs r in
        let below = inside-below t f v view freqs r k b at has in
        let found = place-found test nodes (omega (arith, own, many, below)) in
        let e : 2 + first + place_by test nodes ≡ suc (suc (first + place_by test nodes)) = omega arith in
        let d : first + place_by test nodes - first ≡ place_by test nodes = omega arith in
        ap (nodes-of choice) e
        ∙ (ap (λ (o : Option Border). elim o [ None ↦ inner-at choice (first + place_by test nodes - first) | Some y ↦ choice (Bundle y) ]) (slice_get_past (bundle_nodes t f v view r) (first + place_by test nodes) (omega arith))
        ∙ (ap (inner-at choice) d
        ∙ (ap (λ (o : Option Block). elim o [ None ↦ false | Some c ↦ choice (Inner c.number) ]) found.1
        ∙ ap (λ n. choice (Inner n)) (eqb-true found.0.number b.number found.2))))
