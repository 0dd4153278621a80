use Rattle.std.proofs.Common.{◌≡◌, ℕ, ◌≤◌, ◌+◌, ◌-◌, List}
use Rattle.pipeline.specs.Guarded.Function.{IsTaken}
use Rattle.ra_top.specs.Commands.Spot.{file_most}
use Rattle.ra_top.specs.Reading.{plain}
use Rattle.ra_top.proofs.CheckLemmas.Reads.{IsReadSoFar}
use Rattle.ra_top.proofs.check.files.sources_of.Given as goal

abbrev pub invariant-documents : goal.invariant-documents
invariant-documents g l = record {
  contents : (n : List ℕ) → g.F.Files.contents l.files n ≡ g.F.Files.contents l.fn.files n;
  faults : g.F.Files.faults l.files ≡ g.F.Files.faults l.fn.files;
  line : l.reading.spot.line ≤ l.reading.spot.offset + 1;
  within : l.reading.spot.offset ≤ file_most;
  read : IsReadSoFar (IsTaken l.reader) l.reader (g.F.Files.contents l.fn.files l.name) l.reading.spot l.reading.chunk (g.F.Files.left l.files) (plain l.sources.items);
}

abbrev pub decreases-documents : goal.decreases-documents
decreases-documents g l = file_most - l.reading.spot.offset
