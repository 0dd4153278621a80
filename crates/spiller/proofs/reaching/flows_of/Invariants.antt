use Rattle.spiller.specs.Walks.{HasFlows}
use Rattle.spiller.proofs.reaching.flows_of.Given as goal

abbrev pub invariant-lanes : goal.invariant-lanes
invariant-lanes l = HasFlows l.view.live.now.table l.view.live.now.func.blocks l.view.v l.touched l.lane l.flows.items
