use Rattle.std.proofs.Common.{◌≡◌, map}
use Rattle.mir_meaning.specs.Registers.{numbers}
use Rattle.target_base.specs.Registers.{is_reserved_unit}
use Rattle.instr_effects.proofs.numbers.reserved_units.Given as goal

abbrev pub invariant-units : goal.invariant-units
invariant-units l = l.units.items ≡ map (is_reserved_unit l.target) (numbers 0 l.u)
