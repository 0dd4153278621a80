use Rattle.std.proofs.Common.{◌≡◌, ◌≤◌, ◌+◌, length}
use Rattle.target_desc.specs.Text.{lines}
use Rattle.target_desc.specs.Reading.{spelled, lines_after}
use Rattle.target_desc.proofs.read.read_target.Given as goal

abbrev pub invariant-lines : goal.invariant-lines
invariant-lines l = record {
  number : l.number + length l.rest ≤ 1 + length l.bytes;
  same : spelled l.bytes ≡ lines_after l.number l.reader.draft (lines l.rest);
}

abbrev pub decreases-lines : goal.decreases-lines
decreases-lines l = length l.rest
