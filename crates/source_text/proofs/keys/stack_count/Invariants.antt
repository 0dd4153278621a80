use Rattle.std.proofs.Common.{◌≡◌, ◌+◌, ◌≤◌, length}
use Rattle.mir_text.specs.Document.{lines}
use Rattle.source_text.specs.Keys.{stack_count}
use Rattle.source_text.proofs.keys.stack_count.Given as goal

abbrev pub invariant-lines : goal.invariant-lines
invariant-lines l = record {
  same : l.count + stack_count (lines l.rest) ≡ stack_count (lines l.text);
  few : l.count + length l.rest ≤ length l.text;
}

abbrev pub decreases-lines : goal.decreases-lines
decreases-lines l = length l.rest
