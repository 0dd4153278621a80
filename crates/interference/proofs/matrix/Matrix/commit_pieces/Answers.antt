use Rattle.std.proofs.Common.{◌≡◌, ◌∙◌, ℕ, List, length, sym, ap, subst, refl}
use Rattle.slot_index.specs.Order.{Has, number_of}
use Rattle.interference.specs.declared.saved_lists.AssignedPiece.{AssignedPiece}
use Rattle.interference.specs.HeldLanes.{AreHeldPieces}
use Rattle.interference.proofs.EditedFunc.{all-blocks-stay, not-erased}
use Rattle.live_edits.specs.Runs.{edits_of}
use Rattle.edit_laws.proofs.Composed.{all-classes-stay}
use Rattle.interference.proofs.EditedMatrix.{edits-kept, may-change, parts-kept, still-kept}
use Rattle.interference.proofs.NewRange.{in-order}
use Rattle.interference.proofs.PutBack.{none-saved}
use Rattle.interference.proofs.Ranks.{order-kept}
use Rattle.interference.proofs.matrix.Matrix.commit_pieces.Goals as goal

pub returns-in-Ok-clause-kept : goal.returns-in-Ok-clause-kept
returns-in-Ok-clause-kept c = λ edits before begun kept tells pieces clear.
    let m = c.args.self.now in
    let y = m.live in
    let z = c.commit.new.live in
    let h = c.change_pieces.new.self in
    let es = edits_of edits in
    let exact = c.commit.ensures.exact edits before begun in
    let numbers : (id : ℕ) → Has z.table.order.slots id → number_of y.table.order.slots id ≡ number_of z.table.order.slots id =
    λ id there. sym (c.commit.ensures.numbers edits before begun id (not-erased es before y c.args.changes begun z.table.order.slots exact.computed.layout id there)) in
    let blocks : length z.func.blocks ≡ length before.func.blocks = ap (λ f. length f.blocks) exact.func ∙ all-blocks-stay before.func es in
    let classes = ap (λ f. f.classes) exact.func ∙ all-classes-stay before.func es in
    let may = may-change (record m { live = before }) kept y z h c.args.changes.pieces.items tells clear c.commit.ensures.target c.commit.ensures.lanes c.commit.ensures.rows numbers exact.computed.numbers.table blocks classes in
    edits-kept (record m { live = before }) kept y z h c.args.changes.pieces.items tells clear c.commit.ensures.target c.commit.ensures.lanes c.commit.ensures.rows numbers exact.computed.numbers.table blocks classes
    (c.in-Ok.ensures.ok m before.table c.args.changes.pieces.items refl refl may (subst (λ (ps : List AssignedPiece). AreHeldPieces m c.args.changes.pieces.items ps) (sym c.as_slice.ensures.value) (pieces may.table))) (c.in-Ok.ensures.there may.all.order)

pub returns-clause-refused : goal.returns-clause-refused
returns-clause-refused c = λ edits before begun kept tells.
    let m = c.args.self.now in
    let z = c.roll_back.new.live in
    let exact = c.roll_back.ensures.exact edits before begun in
    parts-kept (record m { live = z }) c.put_back.new.self
    (c.put_back.ensures m.held (c.change_pieces.ensures.back m.held (none-saved m.held c.new-log.result.items c.new-log.ensures.items)))
    (still-kept (record m { live = before }) kept z (c.roll_back.ensures.target ∙ tells.target) exact.func (ap (λ ls. ls.ranges) (c.roll_back.ensures.lanes edits before begun) ∙ tells.ranges) (c.roll_back.ensures.extents edits before begun)
    (in-order before.target before.func z.table exact.computed begun.may.rules begun.may.last)
    (order-kept before.table.order.slots z.table.order.slots (exact.computed.layout ∙ sym begun.may.computed.layout) begun.may.computed.numbered exact.computed.numbered))
