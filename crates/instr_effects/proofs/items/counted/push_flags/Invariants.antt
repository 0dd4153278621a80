use Rattle.std.proofs.Common.{◌≡◌, ◌++◌, map, drop}
use Rattle.mir_meaning.specs.Items.{is_flags, flag_value}
use Rattle.mir_func.specs.Binding.{implicit_roles}
use Rattle.std.specs.Prelude.{filter}
use Rattle.instr_effects.proofs.items.counted.push_flags.Given as goal

abbrev pub invariant-loop-o : goal.invariant-loop-o
invariant-loop-o l = l.out ++ map (flag_value l.t l.f l.condition.code) (filter (is_flags (implicit_roles l.condition.roles.now)) (drop l.o-index l.operands)) ≡ l.initial.out ++ map (flag_value l.t l.f l.condition.code) (filter (is_flags (implicit_roles l.condition.roles.now)) l.operands)
