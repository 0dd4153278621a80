use Rattle.std.proofs.Common.{◌≡◌, ℕ, ◌≤◌, ◌-◌, List, length}
use Rattle.ra_top.specs.Devices.Pieces.{NoneWhole, held_most}
use Rattle.ra_top.specs.Devices.Unread.{Taken}
use Rattle.ra_top.proofs.devices.chunk.read_piece.Given as goal

abbrev pub invariant-chunks : goal.invariant-chunks
invariant-chunks g l = record {
  contents : (n : List ℕ) → g.F.Files.contents l.files n ≡ g.F.Files.contents l.fn.files n;
  faults : g.F.Files.faults l.files ≡ g.F.Files.faults l.fn.files;
  taken : Taken (g.F.Files.left l.fn.files) l.fn.chunk (g.F.Files.left l.files) l.chunk l.piece;
  none : NoneWhole l.piece;
  held : length l.piece ≤ held_most;
}

abbrev pub decreases-chunks : goal.decreases-chunks
decreases-chunks g l = held_most - length l.piece
