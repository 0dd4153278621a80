-- Lists of which the second ends before the first.
use Rattle.std.proofs.Common.{◌≡◌, ℕ, zero, suc, ◌<◌, Bool, false, List, [], ◌∷◌, None, length, drop, refl, arith}
use Rattle.target_base.specs.declared.types.Unit.{Unit as UnitNumber}
use Rattle.target_base.specs.declared.types.Target.{Target}
use Rattle.mir_meaning.specs.Agreement.{all_alike}
use Rattle.source_text.specs.Frames.{Object, new_objects}
use Rattle.source_text.specs.Stored.{are_at}

pub alike_short : {X : Type 0} (test : X → X → Bool) (xs : List X) (k : ℕ) (ys : List X) → k < length xs → length ys ≡ 0 → all_alike test (drop k xs) ys ≡ false
alike_short test [] k ys lt e = absurd (omega arith)
alike_short test (x ∷ xs) zero [] lt e = refl
alike_short test (x ∷ xs) zero (y ∷ ys) lt e = absurd (omega arith)
alike_short test (x ∷ xs) (suc k) ys lt e = alike_short test xs k ys (omega arith) e

pub are_at_short : (t : Target) (vs : List UnitNumber) (ks : List ℕ) (k : ℕ) (us : List UnitNumber) → k < length ks → length us ≡ 0 → are_at t vs (drop k ks) us ≡ false
are_at_short t vs [] k us lt e = absurd (omega arith)
are_at_short t vs (j ∷ ks) zero [] lt e = refl
are_at_short t vs (j ∷ ks) zero (u ∷ us) lt e = absurd (omega arith)
are_at_short t vs (j ∷ ks) (suc k) us lt e = are_at_short t vs ks k us (omega arith) e

pub objects_short : (os : List Object) (k : ℕ) (ps : List Object) → k < length os → length ps ≡ 0 → new_objects (drop k os) ps ≡ None
objects_short [] k ps lt e = absurd (omega arith)
objects_short (o ∷ os) zero [] lt e = refl
objects_short (o ∷ os) zero (p ∷ ps) lt e = absurd (omega arith)
objects_short (o ∷ os) (suc k) ps lt e = objects_short os k ps (omega arith) e
