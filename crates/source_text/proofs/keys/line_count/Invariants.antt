use Rattle.std.proofs.Common.{◌≡◌, ◌+◌, ◌≤◌, length}
use Rattle.mir_text.specs.Document.{lines}
use Rattle.source_text.proofs.keys.line_count.Given as goal

abbrev pub invariant-lines : goal.invariant-lines
invariant-lines l = record {
  same : l.count + length (lines l.rest) ≡ length (lines l.text);
  few : l.count + length l.rest ≤ length l.text;
}

abbrev pub decreases-lines : goal.decreases-lines
decreases-lines l = length l.rest
