use Rattle.std.proofs.Common.{◌≡◌, ℕ, ◌≤◌, ◌+◌, ◌-◌, List, [], false, true}
use Rattle.ra_top.specs.Devices.Device.{WritesAll}
use Rattle.ra_top.specs.Commands.Documents.{tells}
use Rattle.ra_top.specs.Commands.Spot.{file_most}
use Rattle.ra_top.specs.Watched.{is_trace}
use Rattle.ra_top.proofs.Progress.{Progresses}
use Rattle.ra_top.proofs.Watched.{ToldSoFar}
use Rattle.ra_top.proofs.stream.stream_from.Given as goal

abbrev pub invariant-documents : goal.invariant-documents
invariant-documents g l = record {
  contents : (n : List ℕ) → g.F.Files.contents l.files n ≡ g.F.Files.contents l.fn.files n;
  faults : g.F.Files.faults l.files ≡ g.F.Files.faults l.fn.files;
  out_faults : g.O.Sink.faults l.out ≡ g.O.Sink.faults l.fn.out;
  line : l.reading.spot.line ≤ l.reading.spot.offset + 1;
  within : l.reading.spot.offset ≤ file_most;
  leaves : tells l.task.job ≡ false → l.watchers ≡ l.fn.watchers;
  told : tells l.task.job ≡ true → ToldSoFar (g.W.Watcher.next l.task.reader.now) l.task.reader.now (g.F.Files.left l.fn.files) l.reading.spot l.reading.chunk (g.F.Files.left l.files) l.number l.fn.watchers.items l.watchers.items;
  traced : is_trace l.task.job ≡ true → WritesAll (g.O.Sink.written l.fn.out) (g.O.Sink.written l.out) [];
  progress : Progresses l.task.job l.task.reader.now (g.F.Files.left l.fn.files) l.reading.spot l.reading.chunk (g.F.Files.left l.files) (g.O.Sink.written l.fn.out) (g.O.Sink.written l.out);
}

abbrev pub decreases-documents : goal.decreases-documents
decreases-documents g l = file_most - l.reading.spot.offset
