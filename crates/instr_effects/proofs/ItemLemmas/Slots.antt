-- Lanes of slots.
use Rattle.std.proofs.Common.{◌≡◌, ℕ, List, [], ◌∷◌, refl}
use Rattle.mir_meaning.specs.Registers.{slot_lanes}

pub slots_none : (s : ℕ) (ks : List ℕ) → slot_lanes s ks [] ≡ []
slots_none s [] = refl
slots_none s (k ∷ ks) = refl
