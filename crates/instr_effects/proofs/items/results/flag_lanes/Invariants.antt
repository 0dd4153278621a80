use Rattle.std.proofs.Common.{◌≡◌, ◌++◌, drop}
use Rattle.mir_meaning.specs.Items.{is_flags, all_lanes}
use Rattle.mir_func.specs.Binding.{implicit_roles}
use Rattle.std.specs.Prelude.{filter}
use Rattle.instr_effects.proofs.items.results.flag_lanes.Given as goal

abbrev pub invariant-loop-o : goal.invariant-loop-o
invariant-loop-o l = l.made ++ all_lanes l.t l.f (filter (is_flags (implicit_roles l.roles)) (drop l.o-index l.operands)) ≡ all_lanes l.t l.f (filter (is_flags (implicit_roles l.roles)) l.operands)
