use Rattle.live_lanes.proofs.Touching.{has-there}
use Rattle.live_lanes.proofs.ask.touch.TouchList.has_at.Goals as goal

pub returns-in-Some : goal.returns-in-Some
returns-in-Some c = λ same.
    let h = c.in-Some.ensures.lookup in
    has-there c.deref.result.now c.args.self.now.ids.items c.args.place c.args.id c.in-Some.other.now c.deref.ensures.value h.3.0 h.1 same
