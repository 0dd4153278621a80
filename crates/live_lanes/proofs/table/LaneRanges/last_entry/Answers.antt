use Rattle.std.proofs.Common.{◌≡◌, ◌<◌, ◌-◌, suc, Bool, true, None, length, drop, get_or, sym, ap, ◌∙◌, arith}
use Rattle.live_lanes.specs.declared.row.LaneUse.{LaneUse}
use Rattle.live_lanes.specs.Entered.{causes, reading}
use Rattle.live_lanes.specs.Lasting.{shapes, entry_end, last_with, reading_counts}
use Rattle.live_lanes.proofs.Lasting.{last-here}
use Rattle.live_lanes.proofs.table.LaneRanges.last_entry.Goals as goal

pub returns-then-counts : goal.returns-then-counts
returns-then-counts c = λ r.
    let rows = c.args.self.now.rows.items in
    let rs = c.args.readings.now in
    let test : LaneUse → Bool = reading_counts c.args.order.now.slots (causes rows) (shapes rows) c.args.block in
    let within : c.readings.k - 1 < length rs = omega arith in
    let next : suc (c.readings.k - 1) ≡ c.readings.k = omega arith in
    let none : last_with test (drop (suc (c.readings.k - 1)) rs) ≡ None = ap (λ k. last_with test (drop k rs)) next ∙ c.readings.invariant r in
    let passes : test (get_or rs (c.readings.k - 1) (reading 0 None)) ≡ true = sym (c.counts.ensures r) ∙ c.if-counts.true in
    sym (ap entry_end (last-here test rs (c.readings.k - 1) (reading 0 None) within passes none))
