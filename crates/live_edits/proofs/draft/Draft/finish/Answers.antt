use Rattle.std.proofs.Common.{get_or, refl}
use Rattle.live_edits.proofs.DraftEdits.{lets-more}
use Rattle.live_edits.proofs.draft.Draft.finish.Goals as goal

pub erased-preserved : goal.erased-preserved
erased-preserved c = λ order.
    let old = c.args.self.now in
    let mid = c.erased.self in
    let new = c.erase.new.self in
    let so = c.erased.invariant order in
    let ids = c.args.erased.now in
    lets-more old.func mid.func new.func old.order mid.order new.order ids c.erased.id-index (get_or ids c.erased.id-index 0) 0 c.erased-test.true refl so (c.erase.ensures so.order)
