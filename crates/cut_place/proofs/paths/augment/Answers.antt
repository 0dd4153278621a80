use Rattle.std.proofs.Common.{arith}
use Rattle.cut_place.proofs.Facts.{augment_begins, augment_round, augment_done}
use Rattle.cut_place.proofs.paths.augment.Goals as goal

pub loop-step-init : goal.loop-step-init
loop-step-init c = augment_begins c.args.arcs.now c.args.flow.now c.requires.trail.0 c.args.amount c.args.steps.now c.requires.within c.requires.trail.1

pub loop-step-preserved : goal.loop-step-preserved
loop-step-preserved c =
    augment_round c.args.arcs.now c.args.flow.now c.loop-step.flow c.push.new.flow c.args.amount c.args.steps.now c.loop-step.step-index
    (omega arith) c.loop-step.invariant c.push.ensures.pushed c.push.ensures.within

pub returns-clause-balanced : goal.returns-clause-balanced
returns-clause-balanced c =
    augment_done c.args.arcs.now c.args.flow.now c.loop-step.flow c.args.amount c.args.steps.now c.loop-step.step-index
    (omega arith) c.loop-step.invariant
