-- What the table answers of lanes at the entries and exits of instructions.
use Rattle.std.specs.Prelude.{ℕ, Bool, false, Option, None, Some, slice_index}
use Rattle.live_lanes.specs.declared.table.Table.{Table}
use Rattle.live_lanes.specs.Table.{entry_rank, exit_rank}
use Rattle.live_lanes.specs.Ends.{row_at}
use Rattle.live_lanes.specs.Lasting.{AllRise}

-- the numbers of the segments of all lanes rise, so that points are found among them
abbrev pub InOrder : Table → Type 0
InOrder x = AllRise x.order.slots x.rows.rows.items

-- the lane of that number, if there is one, is live at the entry of the instruction of that id
abbrev pub entry_at : Table → Option ℕ → ℕ → Bool
entry_at x None id = false
entry_at x (Some l) id = row_at x.order.slots x.rows.rows.items l (slice_index x.order.block_of.items id) (entry_rank x.order.slots id)

-- the same of its exit
abbrev pub exit_at : Table → Option ℕ → ℕ → Bool
exit_at x None id = false
exit_at x (Some l) id = row_at x.order.slots x.rows.rows.items l (slice_index x.order.block_of.items id) (exit_rank x.order.slots id)
