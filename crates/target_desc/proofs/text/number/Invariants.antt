use Rattle.std.proofs.Common.{◌≡◌, ◌≤◌, drop}
use Rattle.target_desc.specs.Text.{value_from}
use Rattle.target_desc.proofs.text.number.Given as goal

abbrev pub invariant-loop-b : goal.invariant-loop-b
invariant-loop-b l = record {
  small : l.n ≤ 255;
  same : value_from 0 l.word ≡ value_from l.n (drop l.b-index l.word);
}
