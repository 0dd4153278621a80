use Rattle.std.proofs.Common.{ap, ◌∙◌}
use Rattle.slot_index.proofs.Ordered.{slots_above}
use Rattle.slot_index.proofs.Room.{first_behind, none_behind}
use Rattle.slot_index.proofs.Slots.follower.Goals as goal

pub returns-in-Some-clause-found : goal.returns-in-Some-clause-found
returns-in-Some-clause-found c =
    first_behind c.args.after c.args.self.now c.range-above.result c.low_end-low.result _ _ (rw (← c.self.view_is) c.self.invariant.numbered) c.requires c.low_end-low.ensures (c.range-above.ensures.between tt ∙ ap (slots_above c.low_end-low.result) c.self.view_is) c.in-Some.ensures.steps

pub returns-in-None-clause-found : goal.returns-in-None-clause-found
returns-in-None-clause-found c =
    none_behind c.args.after c.args.self.now c.range-above.result c.low_end-low.result (rw (← c.self.view_is) c.self.invariant.numbered) c.requires c.low_end-low.ensures (c.range-above.ensures.between tt ∙ ap (slots_above c.low_end-low.result) c.self.view_is) c.in-None.ensures.steps.0
