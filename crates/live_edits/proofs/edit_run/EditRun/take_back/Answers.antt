use Rattle.std.proofs.Common.{◌∙◌, ◌<◌, length, ap, sym, subst, arith}
use Rattle.slot_index.specs.Order.{ids}
use Rattle.slot_index.specs.Renewed.{low_end}
use Rattle.mir_func.specs.Value.{Function}
use Rattle.live_lanes.specs.declared.order.Order.{Order}
use Rattle.live_lanes.specs.declared.table.LaneRanges.{LaneRanges}
use Rattle.live_lanes.specs.Entered.{rows_seen}
use Rattle.live_lanes.specs.Ordered.{last_id}
use Rattle.live_edits.specs.declared.draft.Draft.{Draft}
use Rattle.live_edits.specs.Drafts.{IsOrderOf, all_undone}
use Rattle.live_edits.specs.Logged.{all_taken_back}
use Rattle.live_edits.proofs.AsideRows.{back-same}
use Rattle.live_edits.proofs.edit_run.EditRun.take_back.Goals as goal

pub returns : goal.returns
returns c = λ o h there.
    let old = c.args.self.now in
    let aside = old.aside.items in
    let r = c.take_back.ensures h in
    let taken = c.take_back.new.self.rows.rows.items in
    let p = c.put_rows_back.ensures in
    let left = c.put_rows_back.new.self in
    let u = c.take_back-2.ensures (subst (λ (d : Draft). IsOrderOf d.func d.order) (sym p.others.draft) o) in
    let mid = c.take_back-2.new.self in
    let new = c.forget.new.self.draft in
    let high = c.highest-highest.ensures u.order in
    let few : mid.func.next_id < 4294967296 = omega (arith, c.next_id-next.ensures) in
    let small : low_end (last_id (ids mid.order.slots)) mid.order.slots < 18446744073709551616 = omega (arith, high) in
    record {
      func = c.forget.ensures.func ∙ (u.func ∙ ap (λ (d : Draft). all_undone d.log.items d.func) p.others.draft);
      order = subst (λ (f : Function). IsOrderOf f new.order) (sym c.forget.ensures.func) (subst (λ (x : Order). IsOrderOf mid.func x) (sym c.forget.ensures.order) u.order);
      small = subst (λ (x : Order). low_end (last_id (ids x.slots)) x.slots < 18446744073709551616) (sym c.forget.ensures.order) small;
      short = subst (λ (f : Function). f.next_id < 4294967296) (sym c.forget.ensures.func) few;
      seen = λ l b.
          ap (λ (x : LaneRanges). rows_seen x.rows.items l b) c.forget.ensures.rows
          ∙ (p.seen (λ q m. subst (λ n. q.lane < n) (sym r.lanes) (there q m)) l b ∙ back-same aside (rows_seen taken) (all_taken_back old.rows.log.items (rows_seen old.rows.rows.rows.items)) r.seen l b);
      rows = ap (λ (x : LaneRanges). length x.rows.items) c.forget.ensures.rows ∙ (p.lanes ∙ r.lanes);
      lanes = c.forget.ensures.lanes ∙ p.others.lanes;
      flow = c.forget.ensures.flow ∙ p.others.flow;
      fresh = c.forget.ensures.fresh;
    }
