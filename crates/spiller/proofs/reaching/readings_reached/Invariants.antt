use Rattle.std.proofs.Common.{take}
use Rattle.live_lanes.specs.Looks.{InOrder}
use Rattle.spiller.proofs.FlowsGathered.{ListsSome}
use Rattle.spiller.proofs.reaching.readings_reached.Given as goal

abbrev pub invariant-flows : goal.invariant-flows
invariant-flows l = InOrder l.view.live.now.table → ListsSome l.view.live.now.table l.view.v (take l.flow-index l.flows) l.id l.reached.items
