use Rattle.std.proofs.Common.{◌≡◌, ◌≤◌, drop}
use Rattle.mir_lines.specs.Numbers.{value_from}
use Rattle.mir_lines.proofs.numbers.numeral.Given as goal

abbrev pub invariant-loop-b : goal.invariant-loop-b
invariant-loop-b l = record {
  small : l.n ≤ l.most;
  same : value_from l.base 0 l.text ≡ value_from l.base l.n (drop l.b-index l.text);
}
