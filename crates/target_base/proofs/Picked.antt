-- Lanes that pick units, one at a time.
use Rattle.std.proofs.Common.{◌≡◌, ℕ, ◌<◌, ◌≢◌, ◌+◌, List, [], ◌∷◌, length, get_or, drop, Bool, true, false, refl, ap, ◌∙◌, arith}
use Rattle.std.specs.Prelude.{◌&&◌, slice_get}
use Rattle.std.proofs.lemmas.List.{drop_more}
use Rattle.target_base.specs.declared.types.Unit.{Unit as UnitNumber}
use Rattle.target_base.specs.Storage.{is_picked, is_unit}

false_and : (a b : Bool) → b ≡ false → (a && b) ≡ false
false_and true b h = h
false_and false b h = refl

-- lanes of another number than the units pick others
pub picked_lengths : (us : List UnitNumber) (ks : List ℕ) (ps : List UnitNumber) → length ks ≢ length ps → is_picked us ks ps ≡ false
picked_lengths us [] [] h = absurd (h refl)
picked_lengths us [] (p ∷ ps) h = refl
picked_lengths us (k ∷ ks) [] h = refl
picked_lengths us (k ∷ ks) (p ∷ ps) h = false_and _ _ (picked_lengths us ks ps (λ e. h (omega (arith, e))))

-- what is left at k is the lane at k and what is left behind it
pub picked_more : (us : List UnitNumber) (ks : List ℕ) (ps : List UnitNumber) (k : ℕ) (d : UnitNumber) → k < length ks → k < length ps → is_picked us (drop k ks) (drop k ps) ≡ (is_unit (slice_get us (get_or ks k 0)) (get_or ps k d) && is_picked us (drop (k + 1) ks) (drop (k + 1) ps))
picked_more us ks ps k d h g =
    let e = drop_more ks k 0 h in
    let f = drop_more ps k d g in
    ap (λ xs. is_picked us xs (drop k ps)) e ∙ ap (λ ys. is_picked us (get_or ks k 0 ∷ drop (k + 1) ks) ys) f

true_and : (a b : Bool) → a ≡ true → (a && b) ≡ b
true_and true b h = refl
true_and false b h = absurd (cc)

stops : (a b : Bool) → a ≡ false → (a && b) ≡ false
stops true b h = absurd (cc)
stops false b h = refl

pub picked_stop : (us : List UnitNumber) (ks : List ℕ) (ps : List UnitNumber) (k : ℕ) (d : UnitNumber) → k < length ks → k < length ps → is_unit (slice_get us (get_or ks k 0)) (get_or ps k d) ≡ false → is_picked us (drop k ks) (drop k ps) ≡ false
picked_stop us ks ps k d h g e = picked_more us ks ps k d h g ∙ stops _ _ e

pub picked_on : (us : List UnitNumber) (ks : List ℕ) (ps : List UnitNumber) (k : ℕ) (d : UnitNumber) → k < length ks → k < length ps → is_unit (slice_get us (get_or ks k 0)) (get_or ps k d) ≡ true → is_picked us (drop k ks) (drop k ps) ≡ is_picked us (drop (k + 1) ks) (drop (k + 1) ps)
picked_on us ks ps k d h g e = picked_more us ks ps k d h g ∙ true_and _ _ e
