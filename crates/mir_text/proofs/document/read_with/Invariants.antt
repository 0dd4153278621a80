use Rattle.std.proofs.Common.{◌≡◌, ◌≤◌, ◌+◌, ◌-◌, length}
use Rattle.mir_text.specs.Document.{lines, lines_after, document_of, IsStateWithin}
use Rattle.mir_text.proofs.document.read_with.Given as goal

abbrev pub invariant-lines : goal.invariant-lines
invariant-lines l = record {
  number : l.number + length l.rest ≤ l.line + length l.bytes;
  left : length l.rest ≤ length l.bytes;
  within : IsStateWithin (length l.bytes - length l.rest) l.state;
  same : document_of l.target l.first l.line l.bytes ≡ lines_after l.target l.first l.bytes l.number l.state (lines l.rest);
}

abbrev pub decreases-lines : goal.decreases-lines
decreases-lines l = length l.rest
