use Rattle.std.specs.Prelude.{slice_get}
use Rattle.live_lanes.specs.Entered.{cells_of}
use Rattle.live_lanes.specs.Extents.{some_extents}
use Rattle.interference.specs.Listed.{HasRoom}
use Rattle.interference.proofs.Filled.{Far}
use Rattle.interference.proofs.unit_table.add_extents.Given as goal

-- the pieces that are gone through are put in
abbrev pub invariant-pieces : goal.invariant-pieces
invariant-pieces l = HasRoom l.live.table.order.slots l.range (some_extents (slice_get (cells_of l.live.table.rows.rows.items l.lane) l.place)) l.fn.list → Far l.live.table.order.slots l.range (slice_get (cells_of l.live.table.rows.rows.items l.lane) l.place) l.index l.fn.list l.list
