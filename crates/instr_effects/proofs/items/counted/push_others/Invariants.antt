use Rattle.std.proofs.Common.{◌≡◌, ◌++◌, map, drop}
use Rattle.mir_meaning.specs.Items.{use_value, is_flags}
use Rattle.mir_func.specs.Binding.{implicit_roles}
use Rattle.std.specs.Prelude.{filter, not}
use Rattle.instr_effects.proofs.items.counted.push_others.Given as goal

abbrev pub invariant-loop-o : goal.invariant-loop-o
invariant-loop-o l = l.out ++ map (use_value l.t l.f) (filter (λ o. not (is_flags (implicit_roles l.roles) o)) (drop l.o-index l.operands)) ≡ l.initial.out ++ map (use_value l.t l.f) (filter (λ o. not (is_flags (implicit_roles l.roles) o)) l.operands)
