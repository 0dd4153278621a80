use Rattle.std.proofs.Common.{◌≡◌, ◌++◌, ◌+◌, drop, length}
use Rattle.mir_func.specs.Binding.{definitions}
use Rattle.mir_meaning.specs.Items.{defined_lanes, results}
use Rattle.instr_effects.proofs.items.results.push_results.Given as goal

abbrev pub invariant-loop-operand : goal.invariant-loop-operand
invariant-loop-operand l = record {
  writes :
      l.out ++ results l.t l.f l.first (definitions l.left (drop l.operand-index l.operands))
      ≡ l.initial.out ++ results l.t l.f 0 (definitions l.roles l.operands);
  behind :
      l.first + length (defined_lanes l.t l.f (definitions l.left (drop l.operand-index l.operands)))
      ≡ length (defined_lanes l.t l.f (definitions l.roles l.operands));
}
