use Rattle.std.proofs.Common.{◌≡◌, ◌++◌, drop}
use Rattle.mir_meaning.specs.Items.{value_of}
use Rattle.mir_func.specs.Binding.{explicit_operands}
use Rattle.std.specs.Prelude.{filter_map}
use Rattle.instr_effects.proofs.items.counted.push_explicit.Given as goal

abbrev pub invariant-loop-o : goal.invariant-loop-o
invariant-loop-o l = l.out ++ filter_map (value_of l.t l.f l.e l.w) (explicit_operands (drop l.o-index l.operands)) ≡ l.initial.out ++ filter_map (value_of l.t l.f l.e l.w) (explicit_operands l.operands)
