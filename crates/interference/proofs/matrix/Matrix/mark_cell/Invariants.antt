use Rattle.std.proofs.Common.{◌≡◌, ◌<◌, ◌*◌, ℕ, length}
use Rattle.std.specs.Prelude.{◌||◌, slice_get}
use Rattle.std.specs.List.{list_any}
use Rattle.live_lanes.specs.Entered.{cells_of}
use Rattle.interference.specs.Clashes.{IsOrdered, is_fixed_at, are_taken, some_cell_points}
use Rattle.interference.specs.Marked.{is_marked}
use Rattle.interference.proofs.Points.{pieces_from}
use Rattle.interference.proofs.matrix.Matrix.mark_cell.Given as goal

-- what is left and what is marked are all that is to be marked
abbrev pub invariant-pieces : goal.invariant-pieces
invariant-pieces l = record {
  room : length l.marks.words.items ≡ length l.fn.marks.words.items;
  fixed : IsOrdered l.self → list_any (is_fixed_at l.self) (pieces_from l.self.live.table.order.slots l.unit (slice_get (cells_of l.self.live.table.rows.rows.items l.lane) l.place) l.index) ≡ list_any (is_fixed_at l.self) (some_cell_points l.self.live.table.order.slots l.unit (slice_get (cells_of l.self.live.table.rows.rows.items l.lane) l.place));
  marked : IsOrdered l.self → (w : ℕ) → w < length l.fn.marks.words.items * 64 → (are_taken l.self l.v (pieces_from l.self.live.table.order.slots l.unit (slice_get (cells_of l.self.live.table.rows.rows.items l.lane) l.place) l.index) w || is_marked l.marks.words.items w) ≡ (are_taken l.self l.v (some_cell_points l.self.live.table.order.slots l.unit (slice_get (cells_of l.self.live.table.rows.rows.items l.lane) l.place)) w || is_marked l.fn.marks.words.items w);
}
