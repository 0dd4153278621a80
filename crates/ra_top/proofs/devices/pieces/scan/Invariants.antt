use Rattle.std.proofs.Common.{◌≡◌, ℕ, ◌<◌, ◌≤◌, take, fold, false}
use Rattle.ra_top.specs.Devices.Scan.{scan_step}
use Rattle.ra_top.proofs.devices.pieces.scan.Given as goal

abbrev pub invariant-loop-k : goal.invariant-loop-k
invariant-loop-k l = record {
  after : l.after ≡ fold scan_step l.fn.before (take l.k l.bytes);
  first : (j : ℕ) → 0 < j → j ≤ l.k → (fold scan_step l.fn.before (take j l.bytes)).whole ≡ false;
}
