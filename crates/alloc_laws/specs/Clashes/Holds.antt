-- A matrix that lists what the assigned ranges hold.
use Rattle.std.specs.Prelude.{◌≡◌, ◌↔◌, ℕ, Some, map, slice_get}
use Rattle.target_base.specs.declared.types.Reg.{Reg}
use Rattle.target_base.specs.Registers.{units_of}
use Rattle.meaning.specs.Live.{Among as Member}
use Rattle.instr_effects.specs.declared.owner.Owner.TheVariants as owners
use Rattle.instr_effects.specs.Numbered.{number_in}
use Rattle.interference.specs.declared.held.RangeExtent.{RangeExtent}
use Rattle.interference.specs.declared.matrix.Matrix.{Matrix}
use Rattle.interference.specs.Clashes.{register_in, holds}
use Rattle.interference.specs.Listed.{lane_extents}

-- by its register the range holds lane k in the unit of that number
abbrev pub IsIn : Matrix → ℕ → ℕ → ℕ → Type 0
IsIn m w k u = (q : Reg) × (register_in m.registers.items w ≡ Some q) × (slice_get (map (λ n. n.0) (units_of m.live.target q)) k ≡ Some u)

-- the stretch is an extent, in the block at a position, of a lane that its range holds in the unit
abbrev pub IsHolding : Matrix → ℕ → ℕ → RangeExtent → Type 0
IsHolding m u p h = (k : ℕ) × IsIn m h.range k u × Member h.extent (lane_extents m.live.table (number_in m.live.table.lanes (owners.Range h.range k)) p)

-- of each unit and each block the matrix lists exactly the stretches that ranges hold
abbrev pub Holds : Matrix → Type 0
Holds m = (u p : ℕ) (h : RangeExtent) → Member h (holds m u p) ↔ IsHolding m u p h
