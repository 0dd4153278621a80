use Rattle.std.proofs.Common.{◌∙◌, sym, ap}
use Rattle.std.proofs.lemmas.Result.{on_ok_weaker}
use Rattle.interference.proofs.EditedMatrix.{still-kept}
use Rattle.interference.proofs.NewRange.{in-order}
use Rattle.interference.proofs.Ranks.{order-kept}
use Rattle.interference.proofs.matrix.Matrix.commit_or_roll_back.Goals as goal

pub returns-in-Ok-clause-kept : goal.returns-in-Ok-clause-kept
returns-in-Ok-clause-kept c = on_ok_weaker c.commit_pieces.result (λ h edits before begun kept tells clear. h edits before begun kept tells c.in-Ok.ensures clear) c.commit_pieces.ensures.kept

pub returns-in-Err-clause-refused : goal.returns-in-Err-clause-refused
returns-in-Err-clause-refused c = λ edits before begun kept tells.
    let m = c.args.self.now in
    let z = c.roll_back.new.live in
    let exact = c.roll_back.ensures.exact edits before begun in
    still-kept (record m { live = before }) kept z (c.roll_back.ensures.target ∙ tells.target) exact.func (ap (λ ls. ls.ranges) (c.roll_back.ensures.lanes edits before begun) ∙ tells.ranges) (c.roll_back.ensures.extents edits before begun)
    (in-order before.target before.func z.table exact.computed begun.may.rules begun.may.last)
    (order-kept before.table.order.slots z.table.order.slots (exact.computed.layout ∙ sym begun.may.computed.layout) begun.may.computed.numbered exact.computed.numbered)
