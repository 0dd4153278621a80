use Rattle.live_edits.proofs.DraftEdits.{erase-none, erase-done}
use Rattle.live_edits.proofs.draft.Draft.erase.Goals as goal

pub returns-in-Some : goal.returns-in-Some
returns-in-Some c = λ order.
    let d = c.args.self.now in
    erase-done d.func c.remove_at.new.self d.order c.take_id.new.order c.args.id (c.in-Some.position, c.in-Some.place) c.find.ensures.function order (c.in-Some.ensures.place order) c.remove_at.ensures.rest c.take_id.ensures

pub returns-in_default : goal.returns-in_default
returns-in_default c = λ order. erase-none c.args.self.now.func c.args.self.now.order c.args.id order (c.in_default.ensures.place order)
