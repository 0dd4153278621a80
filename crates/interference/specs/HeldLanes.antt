-- The lanes that assigned ranges hold, and the pieces of them that edits changed.
use Rattle.std.specs.Prelude.{◌≡◌, ◌⊎◌, ℕ, suc, cond, nat_eq, List, [], ◌∷◌, Option, None, Some, slice_get, option_map}
use Rattle.target_base.specs.declared.types.Reg.{Reg}
use Rattle.target_base.specs.declared.types.Target.{Target}
use Rattle.target_base.specs.declared.types.Unit.{Unit as UnitNumber}
use Rattle.target_base.specs.Registers.{units_of}
use Rattle.mir_meaning.specs.Paths.{Among}
use Rattle.instr_effects.specs.Numbered.{number_in}
use Rattle.instr_effects.specs.declared.lanes.LaneTable.{LaneTable}
use Rattle.instr_effects.specs.declared.owner.Owner.TheVariants as owners
use Rattle.live_lanes.specs.declared.ask.extent.ChangedPiece.{ChangedPiece}
use Rattle.interference.specs.declared.saved_lists.AssignedPiece.{AssignedPiece}
use Rattle.interference.specs.declared.matrix.Matrix.{Matrix}
use Rattle.interference.specs.Clashes.{register_in}

-- the lane of a range that has a unit, where its lanes from lane k on have these units
abbrev pub lane_in : LaneTable → ℕ → ℕ → List UnitNumber → ℕ → Option ℕ
lane_in lanes v k [] u = None
lane_in lanes v k (w ∷ ws) u = cond (nat_eq w.0 u) (number_in lanes (owners.Range v k)) (lane_in lanes v (suc k) ws u)

-- the lane by which a range has a unit, if it has this register
abbrev pub lane_by : Target → LaneTable → ℕ → Option Reg → ℕ → Option ℕ
lane_by t lanes v None u = None
lane_by t lanes v (Some p) u = lane_in lanes v 0 (units_of t p) u

-- the lane by which a range holds a unit, if it does
abbrev pub holding_lane : Matrix → ℕ → ℕ → Option ℕ
holding_lane m v u = lane_by m.live.target m.live.table.lanes v (register_in m.registers.items v) u

-- the unit of a lane of a range in this register, if there is one
abbrev pub unit_at : Target → Option Reg → ℕ → Option ℕ
unit_at t None k = None
unit_at t (Some p) k = option_map (λ w. w.0) (slice_get (units_of t p) k)

-- the range and the unit that hold a lane; none where no range does
pub record IsHolder (m : Matrix) (lane : ℕ) (holder : Option (ℕ × ℕ)) : Type 0 where
  pub holds : (v u : ℕ) → holder ≡ Some (v, u) → holding_lane m v u ≡ Some lane
  pub one : (v u : ℕ) → holding_lane m v u ≡ Some lane → holder ≡ Some (v, u)

-- a piece of a lane, as the piece of a range in a unit that hold the lane
abbrev pub assigned_piece : ChangedPiece → ℕ → ℕ → AssignedPiece
assigned_piece c v u = record { range = v; unit = u; piece = c }

-- a list gets the piece of the range and the unit that hold its lane, if there are such, unless it has it
pub record AddsHeld (holder : Option (ℕ × ℕ)) (c : ChangedPiece) (old new : List AssignedPiece) : Type 0 where
  pub kept : (p : AssignedPiece) → Among p old → Among p new
  pub has : (v u : ℕ) → holder ≡ Some (v, u) → Among (assigned_piece c v u) new
  pub only : (p : AssignedPiece) → Among p new → Among p old ⊎ ((holder ≡ Some (p.range, p.unit)) × (p.piece ≡ c))

-- of the pieces that edits changed, a list has those of lanes that ranges hold
pub record AreHeldPieces (m : Matrix) (changed : List ChangedPiece) (pieces : List AssignedPiece) : Type 0 where
  pub held : (p : AssignedPiece) → Among p pieces → holding_lane m p.range p.unit ≡ Some p.piece.lane
  pub all : (c : ChangedPiece) (v u : ℕ) → Among c changed → holding_lane m v u ≡ Some c.lane → Among (assigned_piece c v u) pieces
