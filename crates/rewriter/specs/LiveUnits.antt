-- The units that are live at the starts of blocks.
use Rattle.std.specs.Prelude.{◌≡◌, ℕ, suc, Bool, false, cond, not, ◌&&◌, ◌||◌, nat_eq, nat_lt, List, [], ◌∷◌, Option, None, Some, length, take, slice_get}
use Rattle.target_base.specs.declared.types.Unit.{Unit as UnitNumber}
use Rattle.target_base.specs.declared.types.Reg.{Reg}
use Rattle.target_base.specs.declared.types.Target.{Target}
use Rattle.target_base.specs.Registers.{units_of}
use Rattle.instr_effects.specs.declared.owner.Owner.TheVariants as owners
use Rattle.instr_effects.specs.Numbered.{number_in}
use Rattle.live_lanes.specs.declared.live.LiveFunc.{LiveFunc}
use Rattle.live_lanes.specs.declared.row.Cell.{Cell}
use Rattle.live_lanes.specs.declared.table.Table.{Table}
use Rattle.live_lanes.specs.Entered.{rows_seen}
use Rattle.live_lanes.specs.Reach.{is_never}
use Rattle.machine_verify.specs.Liveins.{is_set}
use Rattle.rewriter.specs.Physical.{Assignment}
use Rattle.rewriter.specs.declared.live_units.LiveUnits.{LiveUnits}

-- a flag for each unit, of the block at a position
abbrev pub flags_at : LiveUnits → ℕ → List Bool
flags_at x p = elim (slice_get x.blocks p) [ None ↦ [] | Some flags ↦ flags ]

-- the unit is live at the start of the block at a position
abbrev pub live_into : LiveUnits → ℕ → ℕ → Bool
live_into x p u = is_set (flags_at x p) u

-- the lane of that number has points that begin with the block at a position
abbrev pub enters : Table → ℕ → ℕ → Bool
enters x n p = not (is_never (rows_seen x.rows.rows.items n p).end)

-- a lane that may have a number
abbrev pub some_enters : Table → Option ℕ → ℕ → Bool
some_enters x None p = false
some_enters x (Some n) p = enters x n p

-- the unit is one of these, which hold the lanes of range v from its k-th on, and its lane enters the block
abbrev pub holds_live : Table → ℕ → ℕ → List UnitNumber → ℕ → ℕ → Bool
holds_live x v k [] p u = false
holds_live x v k (w ∷ ws) p u = (nat_eq w.0 u && some_enters x (number_in x.lanes (owners.Range v k)) p) || holds_live x v (suc k) ws p u

-- the units of a register, if it is assigned
abbrev pub assigned_units : Target → Option Reg → List UnitNumber
assigned_units t None = []
assigned_units t (Some r) = units_of t r

-- the unit holds such a lane of one of the ranges from v on, which have these registers
abbrev pub held_live : Target → Table → ℕ → Assignment → ℕ → ℕ → Bool
held_live t x v [] p u = false
held_live t x v (r ∷ rs) p u = holds_live x v 0 (assigned_units t r) p u || held_live t x (suc v) rs p u

-- the lane of the unit enters the block
abbrev pub unit_enters : Table → ℕ → ℕ → Bool
unit_enters x u p = some_enters x (number_in x.lanes (owners.Unit u)) p

-- The unit is live at the start of the block at a position where each range is in its register: by itself, or since it holds a
-- lane that is. Ranges have numbers of 32 bits.
abbrev pub is_live_unit : LiveFunc → Assignment → ℕ → ℕ → Bool
is_live_unit live rs p u =
    nat_lt p (length live.func.blocks) && (nat_lt u (length live.target.units)
    && (unit_enters live.table u p || held_live live.target live.table 0 (take 4294967296 rs) p u))

-- What is marked so far.

-- the units that are marked besides, where there are such units and blocks
pub record Marks (test : ℕ → ℕ → Bool) (old new : LiveUnits) : Type 0 where
  pub sizes : (p : ℕ) → length (flags_at new p) ≡ length (flags_at old p)
  pub marks : (p u : ℕ) → live_into new p u ≡ (live_into old p u || (nat_lt u (length (flags_at old p)) && test p u))

-- the block of a cell whose lane enters it
abbrev pub entered_block : Option Cell → Option ℕ
entered_block None = None
entered_block (Some c) = cond (is_never c.first.end) None (Some c.block)

abbrev pub is_at : Option ℕ → ℕ → Bool
is_at None p = false
is_at (Some b) p = nat_eq b p
