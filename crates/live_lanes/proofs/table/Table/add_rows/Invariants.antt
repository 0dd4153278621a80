use Rattle.std.proofs.Common.{◌≡◌, ◌<◌, ℕ, length}
use Rattle.live_lanes.specs.Entered.{rows_seen}
use Rattle.live_lanes.proofs.table.Table.add_rows.Given as goal

abbrev pub invariant-lanes : goal.invariant-lanes
invariant-lanes l = record {
  rest : l.self ≡ record l.fn.self { rows = l.self.rows };
  count : length l.self.rows.rows.items ≡ l.counter;
  seen : (k b : ℕ) → rows_seen l.self.rows.rows.items k b ≡ rows_seen l.fn.self.rows.rows.items k b;
  few : length l.fn.self.rows.rows.items < 4294967296 → length l.fn.self.lanes.owners.items < 4294967296 → length l.self.rows.rows.items < 4294967296;
}
