use Rattle.std.proofs.Common.{◌≡◌, ◌<◌, ◌≤◌, length}
use Rattle.live_edits.specs.Runs.{KeepsCells}
use Rattle.live_edits.proofs.edit_run.add_rows.Given as goal

abbrev pub invariant-lanes : goal.invariant-lanes
invariant-lanes l = record {
  count : length l.rows.rows.items ≡ l.counter;
  long : length l.fn.rows.rows.items ≤ length l.rows.rows.items;
  few : length l.fn.rows.rows.items < 4294967296 → length l.rows.rows.items < 4294967296;
  cells : KeepsCells l.fn.rows.rows.items l.rows.rows.items;
}
