-- Whose lane it is: a lane of a spill slot is one lane at all its widths.
use Rattle.std.specs.Prelude.{List, map, filter_map, Option, Some, None}
use Rattle.target_base.specs.declared.types.Target.{Target}
use Rattle.meaning.specs.declared.types.Lane.{Lane}
use Rattle.meaning.specs.declared.types.Lane.TheVariants.{VirtualLane, UnitLane, SlotLane}
use Rattle.meaning.specs.declared.types.Source.{Source}
use Rattle.meaning.specs.declared.types.Source.TheVariants.{FromLane, Undef, Bits}
use Rattle.meaning.specs.declared.types.Fill.{Fill}
use Rattle.meaning.specs.declared.types.Fill.TheVariants.{Moved, Computed}
use Rattle.target_base.specs.declared.types.IndexId.{IndexId}
use Rattle.mir_func.specs.declared.func.Loc.{Loc}
use Rattle.mir_func.specs.declared.func.RegOp.{RegOp}
use Rattle.mir_func.specs.Value.{Function}
use Rattle.mir_meaning.specs.Registers.{located_lanes}
use Rattle.instr_effects.specs.declared.owner.Owner.{Owner}
use Rattle.instr_effects.specs.declared.owner.Owner.TheVariants as owners

abbrev pub owner_of : Lane → Owner
owner_of (VirtualLane v k) = owners.Range v k
owner_of (UnitLane u) = owners.Unit u
owner_of (SlotLane s k w) = owners.Slot s k

-- the lane that a source names
abbrev pub source_owner : Source → Option Owner
source_owner (FromLane l) = Some (owner_of l)
source_owner Undef = None
source_owner (Bits c low w) = None

-- the lane whose value is moved
abbrev pub fill_owner : Fill → Option Owner
fill_owner (Moved s) = source_owner s
fill_owner (Computed n) = None

-- the lanes that sources name
abbrev pub owners_read : List Source → List Owner
owners_read ss = filter_map source_owner ss

-- the lanes of a location
abbrev pub located_owners : Target → Function → Loc → Option IndexId → List Owner
located_owners t f l x = map owner_of (located_lanes t f l x)

-- the lanes of a register operand
abbrev pub operand_owners : Target → Function → RegOp → List Owner
operand_owners t f o = located_owners t f o.loc o.index
