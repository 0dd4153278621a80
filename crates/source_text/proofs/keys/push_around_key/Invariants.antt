use Rattle.std.proofs.Common.{◌≡◌, ◌++◌, length}
use Rattle.mir_text.specs.Document.{lines}
use Rattle.source_text.specs.Keys.{text_of, before_key, from_key}
use Rattle.source_text.proofs.keys.push_around_key.Given as goal

abbrev pub invariant-lines : goal.invariant-lines
invariant-lines l = record {
  above : l.above ++ text_of (before_key (lines l.rest)) ≡ l.initial.above ++ text_of (before_key (lines l.more));
  below : l.below ++ text_of (from_key (lines l.rest)) ≡ l.initial.below ++ text_of (from_key (lines l.more));
}

abbrev pub decreases-lines : goal.decreases-lines
decreases-lines l = length l.rest
