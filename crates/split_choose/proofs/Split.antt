-- When a block split is offered.
use Rattle.std.proofs.Common.{◌≡◌, ◌∙◌, ℕ, suc, ◌<◌, ◌≤◌, List, [], ◌∷◌, true, false, cond, refl, sym, ap, length, arith, map, Option, None}
use Rattle.std.specs.List.{list_any}
use Rattle.std.proofs.lemmas.Bool.{and_from, and_left, and_right, le-leb, lt-leb}
use Rattle.target_base.specs.declared.types.Target.{Target}
use Rattle.mir_func.specs.Value.{Function}
use Rattle.live_lanes.specs.declared.ask.labels.Mark.{Mark}
use Rattle.split_choose.specs.declared.places.TouchedPlace.{TouchedPlace}
use Rattle.split_choose.specs.Offers.{View, touched_places, is_dividable, live_at, borders, block_marks, some_marks, block_offer}
use Rattle.split_choose.specs.Places.{placed}

length-map : {X Y : Type 0} (f : X → Y) (xs : List X) → length (map f xs) ≡ length xs
length-map f [] = refl
length-map f (x ∷ xs) = ap suc (length-map f xs)

module _ (t : Target) (f : Function) (v : ℕ) (view : View) (ps : List TouchedPlace) (same : ps ≡ map (placed f.blocks) (touched_places t f v view)) where
  pub as-many : length ps ≡ length (touched_places t f v view)
  as-many = ap length same ∙ length-map (placed f.blocks) (touched_places t f v view)

  pub too-few : length ps < 2 → None ≡ block_offer t f v view
  too-few h =
      let m = as-many in
      let few : is_dividable t f v view ≡ false = lt-leb 2 (length (touched_places t f v view)) (omega arith) in
      sym (ap (λ b. cond b (some_marks t f v view (block_marks t f v view 0 f.blocks)) None) (and_left (is_dividable t f v view) (list_any (live_at t f v view) (borders t f v view)) few))

  pub no-border : list_any (live_at t f v view) (borders t f v view) ≡ false → None ≡ block_offer t f v view
  no-border h = sym (ap (λ b. cond b (some_marks t f v view (block_marks t f v view 0 f.blocks)) None) (and_right (is_dividable t f v view) (list_any (live_at t f v view) (borders t f v view)) h))

  pub is-offered : (q : Option (List Mark)) → 2 ≤ length ps → list_any (live_at t f v view) (borders t f v view) ≡ true → q ≡ some_marks t f v view (block_marks t f v view 0 f.blocks) → q ≡ block_offer t f v view
  is-offered q h live e =
      let m = as-many in
      let many : is_dividable t f v view ≡ true = le-leb 2 (length (touched_places t f v view)) (omega arith) in
      e ∙ sym (ap (λ b. cond b (some_marks t f v view (block_marks t f v view 0 f.blocks)) None) (and_from (is_dividable t f v view) (list_any (live_at t f v view) (borders t f v view)) many live))
