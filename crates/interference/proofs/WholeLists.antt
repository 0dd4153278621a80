-- The lists of a matrix, unit by unit and block by block.
use Rattle.std.proofs.Common.{ℕ, refl}
use Rattle.interference.specs.declared.matrix.Matrix.{Matrix}
use Rattle.interference.specs.Clashes.{holds}
use Rattle.interference.specs.Listed.{IsListed, KeepsLists}
use Rattle.interference.specs.EditedLists.{HoldsThose, any_extent, whole_at}
use Rattle.interference.proofs.HeldPieces.{whole-held, all-held}

pub listed-whole : (m : Matrix) → KeepsLists m → (u b : ℕ) → HoldsThose m.live.table.order.slots (whole_at m u b) any_extent (holds m u b)
listed-whole m k u b = whole-held m.live.table.order.slots (whole_at m u b) (holds m u b) (λ v. k.listed v u b) (k.ordered.apart u b)

pub whole-listed : (m : Matrix) → ((u b : ℕ) → HoldsThose m.live.table.order.slots (whole_at m u b) any_extent (holds m u b)) → IsListed m
whole-listed m h v u b = all-held m.live.table.order.slots (whole_at m u b) any_extent (holds m u b) (h u b) (λ w e a. refl) v
