use Rattle.std.proofs.Common.{◌∙◌, ap}
use Rattle.std.specs.Prelude.{filter}
use Rattle.interference.specs.Clashes.{begins_by, held_of}
use Rattle.interference.proofs.held.HeldList.find.Goals as goal

pub returns : goal.returns
returns c = λ filled apart.
    let slots = c.args.slots.now in
    let hs = held_of c.args.self.now in
    c.find_from.ensures
    (record { within = c.behind-gap.ensures.within; begun = λ f a. c.behind-gap.ensures.before f a ∙ ap (λ h. filter (begins_by slots h) hs) c.high_rank.ensures })
    filled apart
