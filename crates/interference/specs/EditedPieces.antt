-- The lists of a matrix while the pieces that edits changed are taken out of them and put in again.
use Rattle.std.specs.Prelude.{◌≡◌, ℕ, Bool, true, not, ◌||◌, ◌&&◌, nat_eq, List, Option, Some, is_some}
use Rattle.std.specs.List.{list_any}
use Rattle.instr_effects.specs.Numbered.{IsTable}
use Rattle.live_edits.specs.Told.{is_told, untold}
use Rattle.live_lanes.specs.declared.ask.extent.ChangedPiece.{ChangedPiece}
use Rattle.live_lanes.specs.declared.ask.extent.Extent.{Extent}
use Rattle.live_lanes.specs.Extents.{extents_in, is_same_start}
use Rattle.live_lanes.specs.declared.table.Table.{Table}
use Rattle.live_lanes.specs.Looks.{InOrder}
use Rattle.live_lanes.specs.Table.{Numbers}
use Rattle.mir_meaning.specs.Paths.{Among}
use Rattle.interference.specs.declared.held.HeldList.{HeldList}
use Rattle.interference.specs.declared.saved_lists.AssignedPiece.{AssignedPiece}
use Rattle.interference.specs.declared.matrix.Matrix.{Matrix}
use Rattle.interference.specs.declared.unit_table.UnitTable.{UnitTable}
use Rattle.interference.specs.Clashes.{AreFilled, holds, list_in}
use Rattle.interference.specs.EditedLists.{AreSeparate, HoldsThose, Whole, any_extent}
use Rattle.interference.specs.HeldLanes.{holding_lane}
use Rattle.interference.specs.Listed.{BeginApart, lane_extents, listed}

-- what each range has by a table of a unit in the block at a position, where it holds the lanes that it holds in the matrix
abbrev pub whole_by : Matrix → Table → ℕ → ℕ → Whole
whole_by m x u b v = lane_extents x (holding_lane m v u) b

-- the piece is the one of a range in a unit and a block that begins so
abbrev pub is_piece_of : ℕ → ℕ → ℕ → Option ℕ → AssignedPiece → Bool
is_piece_of u b v start p = nat_eq p.unit u && (nat_eq p.piece.block b && (nat_eq v p.range && is_same_start start p.piece.start))

abbrev pub are_pieces_of : List AssignedPiece → ℕ → ℕ → ℕ → Extent → Bool
are_pieces_of ps u b v e = list_any (is_piece_of u b v e.start) ps

-- the extent is of none of the pieces
abbrev pub stays : List AssignedPiece → ℕ → ℕ → ℕ → Extent → Bool
stays ps u b v e = not (are_pieces_of ps u b v e)

-- it is of none of them, or of one that is put in again
abbrev pub stays_or_comes : List AssignedPiece → List AssignedPiece → ℕ → ℕ → ℕ → Extent → Bool
stays_or_comes ps put u b v e = stays ps u b v e || are_pieces_of put u b v e

-- lists hold in order those extents that pass a test
pub record HoldThose (slots : Numbers) (whole : ℕ → ℕ → Whole) (test : ℕ → ℕ → ℕ → Extent → Bool) (a : UnitTable) : Type 0 where
  pub filled : (u b : ℕ) (l : HeldList) → list_in a u b ≡ Some l → AreFilled l
  pub those : (u b : ℕ) → HoldsThose slots (whole u b) (test u b) (listed a u b)

-- no range has two extents of a unit in a block that begin alike
abbrev pub AllBeginApart : (ℕ → ℕ → Whole) → Type 0
AllBeginApart whole = (u b v : ℕ) → BeginApart (whole u b v)

-- No two ranges of the matrix clash, and where one has an extent, there is a list for it.
pub record MayHoldAll (m : Matrix) (a : UnitTable) : Type 0 where
  pub order : InOrder m.live.table
  pub separate : (u b : ℕ) → AreSeparate m.live.table.order.slots (whole_by m m.live.table u b)
  pub there : (u b v : ℕ) (e : Extent) → Among e (whole_by m m.live.table u b v) → is_some (list_in a u b) ≡ true

-- the pieces are of lanes that ranges hold
abbrev pub AreHeld : Matrix → List AssignedPiece → Type 0
AreHeld m ps = (p : AssignedPiece) → Among p ps → holding_lane m p.range p.unit ≡ Some p.piece.lane

-- lists are to hold in order all that ranges have
abbrev pub any_piece : ℕ → ℕ → ℕ → Extent → Bool
any_piece u b v e = true

-- What edits changed of the extents that ranges had by another table is told, and the lists hold in order what they had.
pub record MayChangeLists (m : Matrix) (before : Table) (changed : List ChangedPiece) : Type 0 where
  pub table : IsTable m.live.table.lanes
  pub all : MayHoldAll m m.held
  pub ordered : InOrder before
  pub filled : (u b : ℕ) (l : HeldList) → list_in m.held u b ≡ Some l → AreFilled l
  pub had : (u b : ℕ) → HoldsThose m.live.table.order.slots (whole_by m before u b) any_extent (holds m u b)
  pub told : (v u l b : ℕ) → holding_lane m v u ≡ Some l → untold (is_told changed l b) (extents_in m.live.table l b) ≡ untold (is_told changed l b) (extents_in before l b)
