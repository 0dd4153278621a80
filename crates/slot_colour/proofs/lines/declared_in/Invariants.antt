use Rattle.std.proofs.Common.{◌≡◌, ◌++◌, length}
use Rattle.mir_text.specs.Document.{lines}
use Rattle.slot_colour.specs.Lines.{declared_from, declared_in}
use Rattle.slot_colour.proofs.lines.declared_in.Given as goal

abbrev pub invariant-lines : goal.invariant-lines
invariant-lines l = l.made.items ++ declared_from l.is_stack (lines l.rest) ≡ declared_in l.head

abbrev pub decreases-lines : goal.decreases-lines
decreases-lines l = length l.rest
