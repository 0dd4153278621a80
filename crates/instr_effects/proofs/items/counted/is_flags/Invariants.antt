use Rattle.std.proofs.Common.{◌≡◌, drop}
use Rattle.mir_meaning.specs.Items.{is_flags}
use Rattle.mir_func.specs.Binding.{implicit_roles}
use Rattle.instr_effects.proofs.items.counted.is_flags.Given as goal

abbrev pub invariant-loop-r : goal.invariant-loop-r
invariant-loop-r l = is_flags (implicit_roles (drop l.r-index l.roles)) l.o ≡ is_flags (implicit_roles l.roles) l.o
