use Rattle.std.proofs.Common.{sym, subst}
use Rattle.live_edits.specs.Drafts.{IsOrderOf}
use Rattle.live_edits.proofs.DraftOrder.{replaced-order}
use Rattle.live_edits.proofs.draft.undo.Goals as goal

pub returns-in-Replaced-clause-order : goal.returns-in-Replaced-clause-order
returns-in-Replaced-clause-order c = λ order.
    let a = c.in-Replaced in
    subst (λ f. IsOrderOf f c.args.order.now) (sym c.change_at.ensures.new) (replaced-order c.args.func.now c.args.order.now a.position a.place a.op a.operands order)
