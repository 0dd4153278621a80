use Rattle.split_choose.proofs.Alone.{held_found, held_next}
use Rattle.split_choose.proofs.spans.is_held_in.Goals as goal

pub returns-then-is_held_along : goal.returns-then-is_held_along
returns-then-is_held_along c = λ ordered stretches.
    held_found c.args.m.now c.args.v c.args.position c.args.stretches.now c.args.u c.stretches.at-index (record { first = 0; last = 0 }) c.is_held_along.result c.stretches-test.true c.is_held_along.ensures ordered stretches c.if-is_held_along.true

pub stretches-preserved : goal.stretches-preserved
stretches-preserved c = λ ordered stretches.
    held_next c.args.m.now c.args.v c.args.position c.args.stretches.now c.args.u c.stretches.at-index (record { first = 0; last = 0 }) c.is_held_along.result c.stretches-test.true c.is_held_along.ensures ordered stretches c.if-is_held_along.false (c.stretches.invariant ordered stretches)
