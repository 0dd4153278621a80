use Rattle.std.proofs.Common.{◌≡◌, ◌++◌, length}
use Rattle.mir_text.specs.Document.{lines}
use Rattle.source_text.specs.Keys.{text_of, above_body, below_body}
use Rattle.source_text.proofs.keys.push_around_body.Given as goal

abbrev pub invariant-lines : goal.invariant-lines
invariant-lines l = record {
  above : l.above ++ text_of (above_body (lines l.rest)) ≡ l.initial.above ++ text_of (above_body (lines l.head));
  below : l.below ++ text_of (below_body (lines l.rest)) ≡ l.initial.below ++ text_of (below_body (lines l.head));
  left : l.left ≡ length (lines l.rest);
}

abbrev pub decreases-lines : goal.decreases-lines
decreases-lines l = length l.rest
