-- The end of a run in physical form.
use Rattle.std.specs.Prelude.{◌≡◌, map, length, min}
use Rattle.target_base.specs.declared.types.Target.{Target}
use Rattle.mir_func.specs.Value.{Function}
use Rattle.mir_meaning.specs.Registers.{numbers}
use Rattle.interference.specs.declared.matrix.Matrix.{Matrix}
use Rattle.interference.specs.Clashes.{register_in}
use Rattle.spiller.specs.declared.stop.Allocated.{Allocated}
use Rattle.spiller.specs.SlotMaps.{given_slots}
use Rattle.rewriter.specs.LiveUnits.{is_live_unit}
use Rattle.rewriter.specs.Physical.{Assignment, physical_form}

-- the register of each range of a matrix's function; ranges have numbers of 32 bits
abbrev pub registers_of : Matrix → Assignment
registers_of m = map (register_in m.registers.items) (numbers 0 (min (length m.live.func.classes) 4294967296))

-- g is the function of an end of a run with its ranges in their registers, in physical form with the slots that were given
abbrev pub IsRewritten : Target → Allocated → Function → Type 0
IsRewritten t a g = g ≡ physical_form t (registers_of a.matrix) (given_slots a.slots) (is_live_unit a.matrix.live (registers_of a.matrix)) a.matrix.live.func
