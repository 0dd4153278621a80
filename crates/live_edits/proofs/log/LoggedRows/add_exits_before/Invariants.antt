use Rattle.std.proofs.Common.{◌++◌, take}
use Rattle.std.specs.List.{flat_map}
use Rattle.live_lanes.specs.Lasting.{AllRise}
use Rattle.live_lanes.specs.Ways.{terminators}
use Rattle.live_edits.specs.Leading.{AreAlike, exit_needs}
use Rattle.live_edits.specs.Pieces.{requests_of}
use Rattle.live_edits.proofs.log.LoggedRows.add_exits_before.Given as goal

abbrev pub invariant-predecessors : goal.invariant-predecessors
invariant-predecessors l = AllRise l.order.slots l.self.rows.rows.items → AreAlike (requests_of l.needs.items) (requests_of l.fn.needs.items ++ flat_map (λ b. exit_needs l.order.slots l.self.rows.rows.items l.spot.lane l.spot.block b (terminators l.flow b)) (take l.before-index l.before-items))
