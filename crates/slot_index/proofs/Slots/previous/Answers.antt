use Rattle.std.proofs.Common.{ap, ◌∙◌, arith}
use Rattle.slot_index.proofs.Room.{slots_below, last_before, none_before}
use Rattle.slot_index.proofs.Slots.previous.Goals as goal

pub returns-in-Some-clause-first : goal.returns-in-Some-clause-first
returns-in-Some-clause-first c e =
    let before = last_before c.args.self.now c.range-below.result c.args.id c.number-high.result _ _ c.number-high.ensures.numbered c.requires c.number-high.ensures.value (c.range-below.ensures.between tt ∙ ap (slots_below c.number-high.result) c.self.view_is) c.in-Some.ensures.steps in
    absurd (omega (arith, before.0))

pub returns-in-Some-clause-other : goal.returns-in-Some-clause-other
returns-in-Some-clause-other c h =
    let before = last_before c.args.self.now c.range-below.result c.args.id c.number-high.result _ _ c.number-high.ensures.numbered c.requires c.number-high.ensures.value (c.range-below.ensures.between tt ∙ ap (slots_below c.number-high.result) c.self.view_is) c.in-Some.ensures.steps in
    before.1

pub returns-in-None-clause-other : goal.returns-in-None-clause-other
returns-in-None-clause-other c h =
    absurd (omega (arith, none_before c.args.self.now c.range-below.result c.args.id c.number-high.result c.number-high.ensures.numbered c.requires c.number-high.ensures.value (c.range-below.ensures.between tt ∙ ap (slots_below c.number-high.result) c.self.view_is) c.in-None.ensures.steps.0))
