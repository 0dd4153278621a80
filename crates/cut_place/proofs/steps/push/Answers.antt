use Rattle.std.proofs.Common.{◌<◌, ◌≤◌, ◌+◌, ◌^◌, ℕ, length, arith, slice_index_or, lit<}
use Rattle.cut_place.specs.Flows.{arc_at}
use Rattle.cut_place.proofs.steps.push.Goals as goal

pub overflow_add-flow : goal.overflow_add-flow
overflow_add-flow c =
    let small : (arc_at c.args.arcs.now c.args.step.arc).cap ≤ 2 ^ 112 = c.requires.small c.args.step.arc c.requires.inside
    in let below : slice_index_or c.args.flow.now c.args.step.arc 0 ≤ (arc_at c.args.arcs.now c.args.step.arc).cap =
    c.requires.within.below c.args.step.arc c.requires.inside
    in let room = rw c.if-step.true at c.requires.room
    in omega (arith, small, below, room)
