use Rattle.std.proofs.Common.{◌≡◌, slice_get, Bool}
use Rattle.std.specs.Prelude.{◌||◌}
use Rattle.std.specs.List.{list_any}
use Rattle.live_lanes.specs.declared.ask.extent.Stretch.{Stretch}
use Rattle.live_lanes.specs.Entered.{cells_of}
use Rattle.split_choose.specs.Built.{piece_stretches}
use Rattle.split_choose.proofs.spans.add_stretches.Given as goal

abbrev pub invariant-pieces : goal.invariant-pieces
invariant-pieces l = (p : Stretch → Bool) → list_any p l.stretches.items ≡ (list_any p l.initial.stretches.items || list_any p (piece_stretches l.live.table.order.slots (slice_get (cells_of l.live.table.rows.rows.items l.lane) l.place) l.index))
