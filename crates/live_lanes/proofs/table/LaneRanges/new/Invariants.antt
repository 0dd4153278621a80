use Rattle.std.proofs.Common.{◌≡◌, ℕ, length}
use Rattle.live_lanes.specs.Table.{unseen}
use Rattle.live_lanes.specs.Entered.{rows_seen}
use Rattle.live_lanes.proofs.table.LaneRanges.new.Given as goal

abbrev pub invariant-lanes : goal.invariant-lanes
invariant-lanes l = record {
  lanes : length l.rows.items ≡ l.counter;
  seen : (k b : ℕ) → rows_seen l.rows.items k b ≡ unseen;
}
