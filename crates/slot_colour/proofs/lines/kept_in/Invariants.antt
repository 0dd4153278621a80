use Rattle.std.proofs.Common.{◌≡◌, ◌++◌, length}
use Rattle.mir_text.specs.Document.{lines}
use Rattle.slot_colour.specs.Lines.{kept_from, kept_in}
use Rattle.slot_colour.specs.Colouring.{is_gone}
use Rattle.slot_colour.proofs.lines.kept_in.Given as goal

abbrev pub invariant-lines : goal.invariant-lines
invariant-lines l = l.made ++ kept_from (is_gone l.taken) l.is_stack (lines l.rest) ≡ kept_in (is_gone l.taken) l.head

abbrev pub decreases-lines : goal.decreases-lines
decreases-lines l = length l.rest
