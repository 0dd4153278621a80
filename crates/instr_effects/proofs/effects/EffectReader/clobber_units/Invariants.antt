use Rattle.std.proofs.Common.{◌≡◌, ◌++◌, flat_map}
use Rattle.mir_meaning.specs.Registers.{numbers}
use Rattle.instr_effects.specs.Numbered.{number_in}
use Rattle.instr_effects.specs.Runs.{unit_clobbered}
use Rattle.instr_effects.proofs.effects.EffectReader.clobber_units.Given as goal

abbrev pub invariant-units : goal.invariant-units
invariant-units l = l.writes.items ≡ l.fn.writes.items ++ flat_map (unit_clobbered l.self.target.now (number_in l.self.lanes.now) l.operands) (numbers 0 l.u)
