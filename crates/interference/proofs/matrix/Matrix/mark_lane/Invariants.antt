use Rattle.std.proofs.Common.{◌≡◌, ◌<◌, ◌*◌, ℕ, length, drop}
use Rattle.std.specs.Prelude.{◌||◌, flat_map}
use Rattle.std.specs.List.{list_any}
use Rattle.live_lanes.specs.Entered.{cells_of}
use Rattle.interference.specs.Clashes.{IsOrdered, is_fixed_at, are_taken, cell_points}
use Rattle.interference.specs.Marked.{is_marked}
use Rattle.interference.proofs.matrix.Matrix.mark_lane.Given as goal

-- what is left and what is marked are all that is to be marked
abbrev pub invariant-cells : goal.invariant-cells
invariant-cells l = record {
  room : length l.marks.words.items ≡ length l.fn.marks.words.items;
  fixed : IsOrdered l.self → list_any (is_fixed_at l.self) (flat_map (cell_points l.self.live.table.order.slots l.unit) (drop l.place (cells_of l.self.live.table.rows.rows.items l.lane))) ≡ list_any (is_fixed_at l.self) (flat_map (cell_points l.self.live.table.order.slots l.unit) (cells_of l.self.live.table.rows.rows.items l.lane));
  marked : IsOrdered l.self → (w : ℕ) → w < length l.fn.marks.words.items * 64 → (are_taken l.self l.v (flat_map (cell_points l.self.live.table.order.slots l.unit) (drop l.place (cells_of l.self.live.table.rows.rows.items l.lane))) w || is_marked l.marks.words.items w) ≡ (are_taken l.self l.v (flat_map (cell_points l.self.live.table.order.slots l.unit) (cells_of l.self.live.table.rows.rows.items l.lane)) w || is_marked l.fn.marks.words.items w);
}
