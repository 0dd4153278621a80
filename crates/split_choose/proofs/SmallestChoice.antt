-- The nodes that are in by the smallest least cut are in each least choice.
use Rattle.std.proofs.Common.{◌≡◌, ◌∙◌, ℕ, suc, ◌*◌, ◌<◌, List, [], ◌∷◌, Bool, true, false, cond, refl, sym, ap, subst, length, arith, Option, None, Some, option_map}
use Rattle.std.specs.Prelude.{◌&&◌, nat_eq}
use Rattle.std.specs.List.{list_any}
use Rattle.std.proofs.lemmas.Bool.{and_parts, eqb-true}
use Rattle.target_base.specs.declared.types.Target.{Target}
use Rattle.target_base.specs.declared.types.Reg.{Reg}
use Rattle.meaning.specs.Live.{Among}
use Rattle.mir_func.specs.declared.func.Block.{Block}
use Rattle.mir_func.specs.Value.{Function}
use Rattle.live_lanes.specs.Ordered.{place_of}
use Rattle.split_choose.specs.declared.spans.Span.{Span}
use Rattle.split_choose.specs.Bundles.{start_of, end_of, border_place, same_border, same_root, are_joined, ArePlaced, AreEarlier}
use Rattle.split_choose.specs.Offers.{View, Border, In, Out, live_at, borders, is_clear}
use Rattle.split_choose.specs.Cuts.{Node, Bundle, Inner, Choice, IsChoice, has_inside, is_node, number_of}
use Rattle.split_choose.proofs.Telling.{IsTold, IsUntold}
use Rattle.split_choose.proofs.Along.{Along}
use Rattle.split_choose.proofs.Clearing.{some-among}
use Rattle.split_choose.proofs.Spread.{among-place}
use Rattle.split_choose.proofs.FirstBorders.{border-at, named-is}
use Rattle.split_choose.proofs.SameBundle.{border-same}
use Rattle.split_choose.proofs.ChoiceNodes.{nodes-of, bundle-in, inner-in}

place-below : (n : ℕ) (bs : List Block) (k : ℕ) → place_of n bs ≡ Some k → k < length bs
place-below n [] k e = absurd (let z : None ≡ Some k = e in cc)
place-below n (b ∷ bs) k e = go (nat_eq b.number n) (place_of n bs) refl e (place-below n bs)
  where
    go : (c : Bool) (o : Option ℕ) → place_of n bs ≡ o → cond c (Some 0) (option_map (λ x. suc x) o) ≡ Some k → ((j : ℕ) → place_of n bs ≡ Some j → j < length bs) → k < suc (length bs)
    go true o at h ih = let z : 0 ≡ k = cc in omega (arith, z)
    go false None at h ih = absurd (let z : None ≡ Some k = h in cc)
    go false (Some j) at h ih = let z : suc j ≡ k = cc in let low = ih j at in omega (arith, z, low)

border-below : (bs : List Block) (x : Border) (i : ℕ) → border_place bs x ≡ Some i → i < 2 * length bs
border-below bs (In n) i e = go (place_of n bs) refl e
  where
    go : (o : Option ℕ) → place_of n bs ≡ o → option_map start_of o ≡ Some i → i < 2 * length bs
    go None at h = absurd (let z : None ≡ Some i = h in cc)
    go (Some k) at h = let z : start_of k ≡ i = cc in let low = place-below n bs k at in omega (arith, z, low)
border-below bs (Out n) i e = go (place_of n bs) refl e
  where
    go : (o : Option ℕ) → place_of n bs ≡ o → option_map end_of o ≡ Some i → i < 2 * length bs
    go None at h = absurd (let z : None ≡ Some i = h in cc)
    go (Some k) at h = let z : end_of k ≡ i = cc in let low = place-below n bs k at in omega (arith, z, low)

module _ (t : Target) (f : Function) (v : ℕ) (view : View) (freqs : List ℕ) (r : Reg)
    (spans : List Span) (ps : List ℕ) (placed : ArePlaced f.blocks) (one : (x y : Border) → view.one_bundle (x, y) ≡ are_joined f.blocks ps (x, y)) (earlier : AreEarlier ps) (clear : Span → Bool)
    (cleared : (k : ℕ) (b : Block) (s : Span) → IsTold t f v view freqs spans k b s → clear s ≡ is_clear t f v view r b)
    (all : Along (λ (s : Span). s.position) (IsTold t f v view freqs spans) (IsUntold t f v view) 0 f.blocks spans) (choice : Choice) (is : IsChoice t f v view r choice) where
  -- a bundle at one of whose borders the range is live has borders of blocks
  bundle-node : (x : Border) → list_any (λ y. view.one_bundle (x, y) && live_at t f v view y) (borders t f v view) ≡ true → nodes-of t f v view freqs r choice (number_of t f v view r (Bundle x)) ≡ choice (Bundle x)
  bundle-node x named = go (border_place f.blocks x) refl (some-among (λ y. view.one_bundle (x, y) && live_at t f v view y) (borders t f v view) named)
    where
      go : (o : Option ℕ) → border_place f.blocks x ≡ o → ((y : Border) × Among y (borders t f v view) × ((view.one_bundle (x, y) && live_at t f v view y) ≡ true)) → nodes-of t f v view freqs r choice (number_of t f v view r (Bundle x)) ≡ choice (Bundle x)
      go (Some i) at found =
          bundle-in t f v view freqs r spans ps placed one earlier clear cleared all choice is x i at (border-below f.blocks x i at)
          (named-is t f v view ps placed one earlier freqs spans r clear cleared all x i at ∙ named)
      go None at (y, among, both) =
          let place = among-place y (borders t f v view) among in
          let there : border_place f.blocks y ≡ Some place.0 = border-at t f v view ps placed one earlier place.0 y place.1 in
          let same : same_border x y ≡ true = sym (ap (λ (o : Option ℕ). elim o [ None ↦ same_border x y | Some i ↦ same_root ps i (border_place f.blocks y) ]) at) ∙ (sym (one x y) ∙ (and_parts _ _ both).0) in
          let z : None ≡ Some place.0 = sym at ∙ (ap (border_place f.blocks) (border-same x y same) ∙ there) in
          absurd (cc)

  inner-node : (n : ℕ) → list_any (λ b. nat_eq b.number n && has_inside t f v view r b) f.blocks ≡ true → nodes-of t f v view freqs r choice (number_of t f v view r (Inner n)) ≡ choice (Inner n)
  inner-node n has = go (some-among (λ (b : Block). nat_eq b.number n && has_inside t f v view r b) f.blocks has)
    where
      go : ((b : Block) × Among b f.blocks × ((nat_eq b.number n && has_inside t f v view r b) ≡ true)) → nodes-of t f v view freqs r choice (number_of t f v view r (Inner n)) ≡ choice (Inner n)
      go (b, among, both) =
          let parts = and_parts _ _ both in
          let place = among-place b f.blocks among in
          let P : ℕ → Type 0 = λ k. nodes-of t f v view freqs r choice (number_of t f v view r (Inner k)) ≡ choice (Inner k) in
          subst P (eqb-true b.number n parts.0) (inner-in t f v view freqs r spans ps placed one earlier clear cleared all choice is place.0 b place.1 parts.1)

  -- a node is in the set of the nodes of a choice just where it is in the choice
  pub node-in : (node : Node) → is_node t f v view r node ≡ true → nodes-of t f v view freqs r choice (number_of t f v view r node) ≡ choice node
  node-in (Bundle x) h = bundle-node x h
  node-in (Inner n) h = inner-node n h
