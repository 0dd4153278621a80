use Rattle.std.proofs.Common.{◌≡◌, ◌<◌, ◌≤◌, arith, ap, sym, subst}
use Rattle.mir_func.specs.Value.{Function, IsFunction}
use Rattle.live_edits.specs.Drafts.{IsOrderOf, TakesId}
use Rattle.live_edits.proofs.DraftOrder.{retracted-order, retracted-none}
use Rattle.live_edits.proofs.draft.take_put_back.Goals.{then-func-next, else-func-next}
use Rattle.live_edits.proofs.draft.take_put_back.Goals as goal

pub returns-clause-order : goal.returns-clause-order
returns-clause-order c = λ order.
    let f = c.args.func.now in
    let g = c.retract_at.new.self in
    let o = c.args.order.now in
    let was : c.func.inside.next_id ≡ f.next_id = ap (λ (v : Function). v.next_id) c.func.view_is in
    let now : c.func-2.inside.next_id ≡ g.next_id = ap (λ (v : Function). v.next_id) c.func-2.view_is in
    let is = subst (λ (v : Function). IsFunction v.blocks v.next_id) c.func.view_is c.func.invariant in
    elim c.if-func-next.branch [
      | then-func-next w ↦
          let less : g.next_id < f.next_id = omega (arith, was, now, w.if-func-next.true) in
          subst (IsOrderOf g) (sym w.order-is) (retracted-order f g o w.take_id.new.order c.args.position c.args.place is c.retract_at.ensures less (subst (λ n. TakesId n o w.take_id.new.order) now w.take_id.ensures) order)
      | else-func-next w ↦
          let more : f.next_id ≤ g.next_id = omega (arith, was, now, w.if-func-next.false) in
          subst (IsOrderOf g) (sym w.order-is) (retracted-none f g o c.args.position c.args.place c.retract_at.ensures more order)
    ]
