use Rattle.std.proofs.Common.{◌∙◌, sym}
use Rattle.std.proofs.lemmas.Result.{on_ok_weaker, on_err_weaker}
use Rattle.live_edits.proofs.DraftEdits.{any-err}
use Rattle.interference.proofs.EditedFunc.{tells-held}
use Rattle.interference.proofs.ComputedEnds.{stands-kept}
use Rattle.live_edits.specs.Runs.{edits_of}
use Rattle.interference.proofs.EditedMatrix.{still-kept}
use Rattle.interference.proofs.NewRange.{in-order}
use Rattle.interference.proofs.Ranks.{order-kept}
use Rattle.interference.proofs.matrix.Matrix.edit_all.Goals as goal

pub returns-clause-ok : goal.returns-clause-ok
returns-clause-ok c = on_ok_weaker c.commit_or_roll_back.result (λ h may. h c.args.edits.items c.args.self.now.live (c.in_ok-changes.ensures.ok may)) c.commit_or_roll_back.ensures.ok

pub returns-clause-err : goal.returns-clause-err
returns-clause-err c = on_err_weaker c.commit_or_roll_back.result (λ h may. h c.args.edits.items c.args.self.now.live (c.in_ok-changes.ensures.ok may)) c.commit_or_roll_back.ensures.err

pub returns-in_err-changes-clause-err : goal.returns-in_err-changes-clause-err
returns-in_err-changes-clause-err c = any-err c.from_residual.result _ c.in_err-changes.ensures.err

pub returns-clause-kept : goal.returns-clause-kept
returns-clause-kept c =
    let m = c.args.self.now in
    let y = c.begin_edits.new.live in
    let made = c.in_ok-changes.ensures in
    on_ok_weaker c.commit_or_roll_back.result
    (λ h may keeps clear.
    h c.args.edits.items m.live (made.ok may) (stands-kept m (edits_of c.args.edits.items) may keeps)
    (tells-held m y c.without_register-unheld.result c.in_ok-changes.changes.pieces.items c.without_register-unheld.ensures may.computed.numbers.table (made.told may) (made.order may) (c.begin_edits.ensures.ranges may) c.begin_edits.ensures.target)
    clear)
    c.commit_or_roll_back.ensures.kept

pub returns-clause-refused : goal.returns-clause-refused
returns-clause-refused c =
    let m = c.args.self.now in
    let y = c.begin_edits.new.live in
    let made = c.in_ok-changes.ensures in
    on_err_weaker c.commit_or_roll_back.result
    (λ h may keeps.
    h c.args.edits.items m.live (made.ok may) (stands-kept m (edits_of c.args.edits.items) may keeps)
    (tells-held m y c.without_register-unheld.result c.in_ok-changes.changes.pieces.items c.without_register-unheld.ensures may.computed.numbers.table (made.told may) (made.order may) (c.begin_edits.ensures.ranges may) c.begin_edits.ensures.target))
    c.commit_or_roll_back.ensures.refused

pub returns-in_err-changes-clause-refused : goal.returns-in_err-changes-clause-refused
returns-in_err-changes-clause-refused c = any-err c.from_residual.result _ (λ may keeps.
    let m = c.args.self.now in
    let y = c.begin_edits.new.live in
    let exact = c.in_err-changes.ensures.err may in
    still-kept m (stands-kept m (edits_of c.args.edits.items) may keeps) y c.begin_edits.ensures.target exact.func (c.begin_edits.ensures.ranges may) (c.in_err-changes.ensures.extents may)
    (in-order m.live.target m.live.func y.table exact.computed may.rules may.last)
    (order-kept m.live.table.order.slots y.table.order.slots (exact.computed.layout ∙ sym may.computed.layout) may.computed.numbered exact.computed.numbered))
