use Rattle.std.proofs.Common.{◌≡◌, ◌+◌, suc, subst, arith}
use Rattle.live_lanes.specs.Entered.{rows_seen}
use Rattle.live_lanes.specs.Held.{IsSpan, held_at, any_held}
use Rattle.live_lanes.proofs.table.Table.span.Goals as goal

pub lanes-preserved : goal.lanes-preserved
lanes-preserved c =
    let slots = c.args.self.now.order.slots in
    let rows = c.args.self.now.rows.rows.items in
    let next : suc c.lanes.k ≡ c.lanes.k + 1 = omega arith in
    record {
      further = c.with-span.ensures.further c.args.at c.lane_span.ensures.further c.lanes.invariant.further;
      span = λ o. subst (λ n. IsSpan (any_held slots rows c.args.own.first n c.args.block) c.args.at c.with-span.result) next (c.with-span.ensures.span (held_at slots (rows_seen rows (c.args.own.first + c.lanes.k) c.args.block)) (any_held slots rows c.args.own.first c.lanes.k c.args.block) c.args.at (c.lane_span.ensures.span o) (c.lanes.invariant.span o));
    }
