use Rattle.std.proofs.Common.{◌≡◌, ℕ}
use Rattle.live_lanes.specs.Table.{seen_in}
use Rattle.live_lanes.proofs.row.LaneRange.fill.Given as goal

abbrev pub invariant-between : goal.invariant-between
invariant-between l = (b : ℕ) → seen_in l.self.cells.items b ≡ seen_in l.fn.self.cells.items b
