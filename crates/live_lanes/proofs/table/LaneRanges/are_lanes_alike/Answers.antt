use Rattle.std.proofs.Common.{◌≡◌, ◌<◌, ◌≤◌, ◌+◌, ◌∙◌, ◌⊎◌, ◌≢◌, inl, inr, ℕ, length, ap, sym, subst, arith}
use Rattle.live_lanes.specs.Alike.{outline}
use Rattle.live_lanes.specs.Entered.{rows_seen}
use Rattle.live_lanes.proofs.Alike.{lanes-first, lanes-more}
use Rattle.live_lanes.proofs.table.LaneRanges.are_lanes_alike.Goals as goal

pub lanes-init : goal.lanes-init
lanes-init c = lanes-first c.args.self.now.rows.items c.args.own.first

pub lanes-preserved : goal.lanes-preserved
lanes-preserved c = lanes-more c.args.self.now.rows.items c.args.own.first c.lanes.k c.cells-first.result.now c.cells.result.now c.lanes.invariant c.cells-first.ensures c.cells.ensures (c.are_cells_alike.ensures c.if-not-are_cells_alike.false)

pub returns : goal.returns
returns c = λ u k n w. c.lanes.invariant k n (omega (arith, w, c.lanes-test.false))
