use Rattle.live_lanes.specs.Held.{IsLastBefore, AreUnseen}
use Rattle.live_lanes.proofs.table.Table.last_before.Given as goal

abbrev pub invariant-lanes : goal.invariant-lanes
invariant-lanes l = IsLastBefore (AreUnseen l.self.rows.rows.items l.own.first l.k) l.bound l.last
