use Rattle.std.proofs.Common.{◌≡◌, ℕ, ◌+◌, ◌-◌, ◌≤◌, List, vec_len}
use Rattle.ra_top.proofs.DeviceLemmas.Front.{HasFront}
use Rattle.ra_top.proofs.devices.moves.read_pieces.Given as goal

abbrev pub invariant-pieces : goal.invariant-pieces
invariant-pieces g l = record {
  contents : (n : List ℕ) → g.F.Files.contents l.files n ≡ g.F.Files.contents l.fn.files n;
  faults : g.F.Files.faults l.files ≡ g.F.Files.faults l.fn.files;
  front : HasFront (g.F.Files.left l.fn.files) (g.F.Files.left l.files) l.bytes.items (vec_len l.bytes);
  within : vec_len l.bytes ≤ l.limit + 1;
}

abbrev pub decreases-pieces : goal.decreases-pieces
decreases-pieces g l = l.limit + 1 - vec_len l.bytes
