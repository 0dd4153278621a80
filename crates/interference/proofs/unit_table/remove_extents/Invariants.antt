use Rattle.std.specs.Prelude.{slice_get}
use Rattle.live_lanes.specs.Entered.{cells_of}
use Rattle.interference.specs.Listed.{IsThinned}
use Rattle.interference.proofs.Thinned.{upto}
use Rattle.interference.proofs.unit_table.remove_extents.Given as goal

-- the pieces that are gone through are taken out
abbrev pub invariant-pieces : goal.invariant-pieces
invariant-pieces l = IsThinned l.live.table.order.slots l.range (upto (slice_get (cells_of l.live.table.rows.rows.items l.lane) l.place) l.index) l.fn.list l.list
