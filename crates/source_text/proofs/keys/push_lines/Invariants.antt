use Rattle.std.proofs.Common.{◌≡◌, ◌++◌, length}
use Rattle.mir_text.specs.Document.{lines}
use Rattle.source_text.specs.Keys.{text_of}
use Rattle.source_text.proofs.keys.push_lines.Given as goal

abbrev pub invariant-lines : goal.invariant-lines
invariant-lines l = l.text ++ text_of (lines l.rest) ≡ l.initial.text ++ text_of (lines l.more)

abbrev pub decreases-lines : goal.decreases-lines
decreases-lines l = length l.rest
