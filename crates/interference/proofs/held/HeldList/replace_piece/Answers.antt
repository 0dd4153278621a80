use Rattle.std.proofs.Common.{◌≡◌, ◌∙◌, ap, sym}
use Rattle.std.specs.Prelude.{filter}
use Rattle.std.proofs.lemmas.Result.{on_ok_weaker}
use Rattle.live_lanes.specs.Extents.{first_rank}
use Rattle.interference.specs.Changes.{high_rank}
use Rattle.interference.specs.Clashes.{begins_by, held_of}
use Rattle.interference.specs.Parts.{IsBehind}
use Rattle.interference.proofs.PutBack.{logs-both, puts-new}
use Rattle.interference.proofs.held.HeldList.replace_piece.Goals as goal

pub returns-in-None-clause-ok : goal.returns-in-None-clause-ok
returns-in-None-clause-ok c =
    let slots = c.args.slots.now in
    let l = c.args.self.now in
    let e = c.args.extent in
    let gap = c.behind-gap.result in
    let behind : IsBehind slots (high_rank slots e.start) l gap =
    record { within = c.behind-gap.ensures.within; begun = λ f a. c.behind-gap.ensures.before f a ∙ ap (λ h. filter (begins_by slots h) (held_of l)) c.high_rank-high.ensures } in
    let same : high_rank slots e.start ≡ first_rank slots e = sym c.high_rank-high.ensures ∙ sym c.if-first-high.true ∙ c.first.ensures in
    on_ok_weaker c.put_at.result (puts-new slots c.args.at.now.range e l c.put_at.new.self (c.in-None.ensures behind))
    (c.put_at.ensures.ok (record { within = behind.within; begun = λ f a. behind.begun f a ∙ ap (λ h. filter (begins_by slots h) (held_of l)) same }))

pub returns-in-None-2-clause-ok : goal.returns-in-None-2-clause-ok
returns-in-None-2-clause-ok c =
    let slots = c.args.slots.now in
    let l = c.args.self.now in
    let behind : IsBehind slots (high_rank slots c.args.extent.start) l c.behind-gap.result =
    record { within = c.behind-gap.ensures.within; begun = λ f a. c.behind-gap.ensures.before f a ∙ ap (λ h. filter (begins_by slots h) (held_of l)) c.high_rank-high.ensures } in
    on_ok_weaker c.put_piece-in-None-2.result (puts-new slots c.args.at.now.range c.args.extent l c.put_piece-in-None-2.new.self (c.in-None-2.ensures behind)) c.put_piece-in-None-2.ensures.ok

pub returns-in_ok-take_piece-in-Some-2-clause-logged : goal.returns-in_ok-take_piece-in-Some-2-clause-logged
returns-in_ok-take_piece-in-Some-2-clause-logged c =
    logs-both c.args.at.now c.args.log.now.items c.take_piece.new.log.items c.put_piece.new.log.items c.args.self.now c.take_piece.new.self c.put_piece.new.self c.in_ok-take_piece-in-Some-2.ensures.logged c.put_piece.ensures.logged
