use Rattle.std.proofs.Common.{◌<◌, sym, subst, arith}
use Rattle.mir_func.specs.Value.{Function}
use Rattle.live_lanes.specs.declared.order.Order.{Order}
use Rattle.live_edits.specs.Drafts.{LetsGo}
use Rattle.live_edits.proofs.edit_run.EditRun.keep.Goals as goal

pub returns : goal.returns
returns c =
    let old = c.args.self.now.draft in
    let mid = c.finish.new.self in
    let new = c.forget.new.self.draft in
    let few : mid.func.next_id < 4294967296 = omega (arith, c.next_id-next.ensures) in
    record {
      goes = λ o.
          subst (λ (h : Function). LetsGo old.func h old.order new.order c.args.erased.now) (sym c.forget.ensures.func)
          (subst (λ (x : Order). LetsGo old.func mid.func old.order x c.args.erased.now) (sym c.forget.ensures.order) (c.finish.ensures o));
      short = subst (λ (h : Function). h.next_id < 4294967296) (sym c.forget.ensures.func) few;
      lanes = c.forget.ensures.lanes;
      flow = c.forget.ensures.flow;
      rows = c.forget.ensures.rows;
      fresh = c.forget.ensures.fresh;
    }
