use Rattle.std.proofs.Common.{◌≡◌, map}
use Rattle.mir_meaning.specs.Registers.{numbers}
use Rattle.instr_effects.specs.declared.owner.Owner.TheVariants as owners
use Rattle.instr_effects.proofs.registers.first_slots.Given as goal

abbrev pub invariant-lanes : goal.invariant-lanes
invariant-lanes l = l.lanes.items ≡ map (owners.Slot l.s) (numbers 0 l.k)
