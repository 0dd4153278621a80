-- What edits of a matrix's function ask of the matrix and of what they leave.
use Rattle.std.specs.Prelude.{◌≡◌, ◌≢◌, ◌<◌, ℕ, true, List, Some, length}
use Rattle.mir_meaning.specs.Paths.{Among}
use Rattle.live_lanes.specs.declared.ask.extent.ChangedPiece.{ChangedPiece}
use Rattle.live_lanes.specs.declared.ask.extent.Extent.{Extent}
use Rattle.live_lanes.specs.declared.live.LiveFunc.{LiveFunc}
use Rattle.live_lanes.specs.declared.table.Table.{Table}
use Rattle.live_lanes.specs.Extents.{extents_in}
use Rattle.live_lanes.specs.Looks.{InOrder}
use Rattle.live_edits.specs.Drafts.{KeepsOrder}
use Rattle.live_edits.specs.Told.{is_told, untold}
use Rattle.interference.specs.declared.matrix.Matrix.{Matrix}
use Rattle.interference.specs.EditedLists.{FitNumbers, HasEnds, LieApart, whole_at}
use Rattle.interference.specs.HeldLanes.{holding_lane}
use Rattle.interference.specs.Listed.{KeepsLists, LiesInTurn, has_some}

-- the instructions at both ends of each extent are in the order, and numbers of instructions fit 64 bits
pub record HasAllEnds (x : Table) : Type 0 where
  pub ends : (l b : ℕ) (e : Extent) → Among e (extents_in x l b) → HasEnds x.order.slots e
  pub numbers : FitNumbers x.order.slots

-- a matrix whose lists are kept, and whose extents lie in blocks of the function, between instructions of the order
pub record StandsKept (m : Matrix) : Type 0 where
  pub keeps : KeepsLists m
  pub within : (l b : ℕ) → has_some (extents_in m.live.table l b) ≡ true → b < length m.live.func.blocks
  pub ends : HasAllEnds m.live.table

-- no two ranges hold a unit at one point
abbrev pub NoneClash : Matrix → Type 0
NoneClash m = (u b v w : ℕ) → v ≢ w → (e f : Extent) → Among e (whole_at m u b v) → Among f (whole_at m u b w) → LieApart m.live.table.order.slots e f

-- a matrix in which no two ranges clash, by a table in order
pub record StandsClear (m : Matrix) : Type 0 where
  pub order : InOrder m.live.table
  pub lies : LiesInTurn m
  pub clear : NoneClash m
  pub ends : HasAllEnds m.live.table

-- Edits are begun in the matrix's function: what they changed of lanes that ranges hold is told, instructions keep their order, and ranges their lanes.
pub record TellsHeld (m : Matrix) (before : LiveFunc) (changed : List ChangedPiece) : Type 0 where
  pub told : (v u l b : ℕ) → holding_lane m v u ≡ Some l → untold (is_told changed l b) (extents_in m.live.table l b) ≡ untold (is_told changed l b) (extents_in before.table l b)
  pub order : KeepsOrder before.table.order.slots m.live.table.order.slots
  pub ranges : m.live.table.lanes.ranges ≡ before.table.lanes.ranges
  pub target : m.live.target ≡ before.target
