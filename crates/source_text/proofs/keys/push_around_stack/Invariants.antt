use Rattle.std.proofs.Common.{◌≡◌, ◌++◌, length}
use Rattle.mir_text.specs.Document.{lines}
use Rattle.source_text.specs.Keys.{text_of, above_in_stack, below_in_stack, stack_count}
use Rattle.source_text.proofs.keys.push_around_stack.Given as goal

abbrev pub invariant-lines : goal.invariant-lines
invariant-lines l = record {
  above : l.above ++ text_of (above_in_stack (lines l.rest)) ≡ l.initial.above ++ text_of (above_in_stack (lines l.head));
  below : l.below ++ text_of (below_in_stack (lines l.rest)) ≡ l.initial.below ++ text_of (below_in_stack (lines l.head));
  left : l.left ≡ stack_count (lines l.rest);
}

abbrev pub decreases-lines : goal.decreases-lines
decreases-lines l = length l.rest
