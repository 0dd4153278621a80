-- Lists of writes, and what stands at a place.
use Rattle.std.proofs.Common.{◌≡◌, ℕ, suc, zero, List, [], ◌∷◌, Bool, refl, arith, length, ◌≤◌, ◌<◌, get_or}
use Rattle.meaning.specs.declared.types.Lane.{Lane}
use Rattle.mir_meaning.specs.Items.{pick, moved}

pub pick_past : {X : Type 0} (k : ℕ) (xs : List X) → length xs ≤ k → pick k xs ≡ []
pick_past k [] h = refl
pick_past zero (x ∷ xs) h = absurd (omega arith)
pick_past (suc k) (x ∷ xs) h = pick_past k xs (omega arith)

pub pick_in : {X : Type 0} (k : ℕ) (xs : List X) (d : X) → k < length xs → pick k xs ≡ (get_or xs k d ∷ [])
pick_in k [] d h = absurd (omega arith)
pick_in zero (x ∷ xs) d h = refl
pick_in (suc k) (x ∷ xs) d h = pick_in k xs d (omega arith)

pub moved_none : (early : Bool) (ls : List Lane) → moved early ls [] ≡ []
moved_none early [] = refl
moved_none early (l ∷ ls) = refl
