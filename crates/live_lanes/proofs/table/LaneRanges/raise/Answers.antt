use Rattle.std.proofs.Common.{◌∙◌, ap, subst, set}
use Rattle.live_lanes.specs.Growth.{Raised}
use Rattle.live_lanes.specs.Table.{rises_from}
use Rattle.live_lanes.proofs.Rows.{row-of, listed, unlisted}
use Rattle.live_lanes.proofs.table.LaneRanges.raise.Goals as goal

pub returns-in_ok-push : goal.returns-in_ok-push
returns-in_ok-push c = λ h rises.
    let x = c.index_mut.result.now in
    let rows = c.args.self.now.rows.items in
    let r = c.in_ok-index.ensures (ap (λ v. rises_from c.args.order.now.slots 0 v.segments) (row-of rows c.args.until.lane c.args.until.block x h c.index_mut.ensures.value) ∙ rises) in
    let to = listed c.args.order.now.slots rows c.args.until.lane c.args.until.block c.rank-point.result c.args.cause x c.raise.new.self c.in_ok-index.field-0 h c.index_mut.ensures.value r c.in-Some.index c.args.risen.now.items c.push.new.self.items c.in-Some.is c.in_ok-push.ensures.items in
    subst (λ p. Raised c.args.order.now.slots rows (set rows c.args.until.lane c.raise.new.self) c.args.until.lane c.args.until.block p c.args.cause c.args.risen.now.items c.push.new.self.items) c.rank-point.ensures to

pub returns-in_default : goal.returns-in_default
returns-in_default c = λ h rises.
    let x = c.index_mut.result.now in
    let rows = c.args.self.now.rows.items in
    let r = c.in_ok-index.ensures (ap (λ v. rises_from c.args.order.now.slots 0 v.segments) (row-of rows c.args.until.lane c.args.until.block x h c.index_mut.ensures.value) ∙ rises) in
    let to = unlisted c.args.order.now.slots rows c.args.until.lane c.args.until.block c.rank-point.result c.args.cause x c.raise.new.self c.in_ok-index.field-0 h c.index_mut.ensures.value r c.args.risen.now.items c.in_default.not-Some in
    subst (λ p. Raised c.args.order.now.slots rows (set rows c.args.until.lane c.raise.new.self) c.args.until.lane c.args.until.block p c.args.cause c.args.risen.now.items c.args.risen.now.items) c.rank-point.ensures to
