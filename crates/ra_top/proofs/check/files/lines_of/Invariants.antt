use Rattle.std.proofs.Common.{◌≡◌, ℕ, ◌≤◌, ◌+◌, ◌-◌, List, []}
use Rattle.mir_func.specs.Value.{Function}
use Rattle.ra_top.specs.Commands.Spot.{file_most}
use Rattle.ra_top.specs.Checked.{IsWithin}
use Rattle.ra_top.specs.Reading.{plain, AddsLines}
use Rattle.ra_top.proofs.CheckLemmas.Reads.{IsReadSoFar}
use Rattle.ra_top.proofs.check.files.lines_of.Given as goal

abbrev pub invariant-documents : goal.invariant-documents
invariant-documents g l = record {
  contents : (n : List ℕ) → g.F.Files.contents l.files n ≡ g.F.Files.contents l.fn.files n;
  faults : g.F.Files.faults l.files ≡ g.F.Files.faults l.fn.files;
  line : l.reading.spot.line ≤ l.reading.spot.offset + 1;
  within : l.reading.spot.offset ≤ file_most;
  said : (gs : List Function) × IsReadSoFar IsWithin l.reader (g.F.Files.contents l.fn.files l.name) l.reading.spot l.reading.chunk (g.F.Files.left l.files) gs
      × AddsLines l.reader (plain l.sources) gs (plain l.left) [] l.lines;
}

abbrev pub decreases-documents : goal.decreases-documents
decreases-documents g l = file_most - l.reading.spot.offset
