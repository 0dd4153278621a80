-- Lists of a matrix while edits bring them up to date, piece by piece.
use Rattle.std.specs.Prelude.{find, ◌≡◌, ◌≤◌, ◌⊎◌, ℕ, not, filter, List, Option, Some, None}
use Rattle.mir_meaning.specs.Paths.{Among}
use Rattle.live_lanes.specs.declared.ask.extent.Extent.{Extent}
use Rattle.live_lanes.specs.Table.{Numbers}
use Rattle.live_lanes.specs.declared.table.Table.{Table}
use Rattle.live_lanes.specs.Extents.{begins_with, extents_in, first_rank}
use Rattle.interference.specs.declared.saved_lists.AssignedPiece.{AssignedPiece}
use Rattle.interference.specs.declared.held.HeldList.{HeldList}
use Rattle.interference.specs.declared.held.RangeExtent.{RangeExtent}
use Rattle.interference.specs.declared.unit_table.UnitTable.{UnitTable}
use Rattle.interference.specs.Changes.{IsInserted, is_piece, own_of, starting}
use Rattle.interference.specs.Clashes.{AreApart, AreFilled, begins_by, held_of}
use Rattle.interference.specs.Listed.{ChangesAt}

-- the stretches without those of a range that begin so
abbrev pub without_piece : ℕ → Option ℕ → List RangeExtent → List RangeExtent
without_piece v start hs = filter (λ h. not (is_piece v start h)) hs

-- a range's stretch that begins so is taken out, if there is one
pub record TakesPiece (slots : Numbers) (v : ℕ) (start : Option ℕ) (l k : HeldList) : Type 0 where
  pub filled : AreFilled l → AreFilled k
  pub held : AreFilled l → AreApart slots 0 (held_of l) → starting start (own_of v (held_of l)) ≤ 1 → held_of k ≡ without_piece v start (held_of l)

-- a stretch is put among others, behind those that begin by its first point
abbrev pub IsPut : Numbers → ℕ → Extent → List RangeExtent → List RangeExtent → Type 0
IsPut slots v e hs ns = IsInserted (filter (begins_by slots (first_rank slots e)) hs) (record { range = v; extent = e }) hs ns

-- an extent of the range is put in its place in the order
pub record PutsExtent (slots : Numbers) (v : ℕ) (e : Extent) (l k : HeldList) : Type 0 where
  pub filled : AreFilled l → AreFilled k
  pub held : AreFilled l → AreApart slots 0 (held_of l) → IsPut slots v e (held_of l) (held_of k)

-- it stands there, and the list stays as it is
abbrev pub Stands : ℕ → Extent → HeldList → HeldList → Type 0
Stands v e l k = (held_of k ≡ held_of l) × Among (record { range = v; extent = e }) (held_of l)

-- it is put in the place of one that begins so, or stands there
pub record PutsPiece (slots : Numbers) (v : ℕ) (e : Extent) (l k : HeldList) : Type 0 where
  pub filled : AreFilled l → AreFilled k
  pub held : AreFilled l → AreApart slots 0 (held_of l) → starting e.start (own_of v (held_of l)) ≤ 1 → AreApart slots 0 (without_piece v e.start (held_of l))
      → IsPut slots v e (without_piece v e.start (held_of l)) (held_of k) ⊎ Stands v e l k

-- An extent of the piece's range is put into the list of its unit and block, if there is an extent.
abbrev pub PutsFound : Numbers → Option Extent → AssignedPiece → UnitTable → UnitTable → Type 0
PutsFound slots None at old new = new ≡ old
PutsFound slots (Some e) at old new = ChangesAt (PutsPiece slots at.range e) at.unit at.piece.block old new

-- the extent of the piece in a table
abbrev pub extent_now : Table → AssignedPiece → Option Extent
extent_now x at = find (begins_with at.piece.start) (extents_in x at.piece.lane at.piece.block)
