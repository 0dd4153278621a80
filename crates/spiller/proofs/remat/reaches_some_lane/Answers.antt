use Rattle.std.proofs.Common.{◌∙◌, sym}
use Rattle.spiller.specs.Walks.{lists}
use Rattle.spiller.proofs.Behind.{numbers-found, numbers-next}
use Rattle.spiller.proofs.remat.reaches_some_lane.Goals as goal

pub returns-then-reaches_lane : goal.returns-then-reaches_lane
returns-then-reaches_lane c = numbers-found (λ k. lists c.args.definition.now.reached.keys k c.args.id) c.lanes.k c.args.count _ c.lanes-test.true (sym c.reaches_lane.ensures ∙ c.if-reaches_lane.true) c.lanes.invariant

pub lanes-preserved : goal.lanes-preserved
lanes-preserved c = numbers-next (λ k. lists c.args.definition.now.reached.keys k c.args.id) c.lanes.k c.args.count _ c.lanes-test.true (sym c.reaches_lane.ensures ∙ c.if-reaches_lane.false) c.lanes.invariant
