use Rattle.std.proofs.Common.{◌≡◌, ◌∙◌, ◌+◌, arith, subst, sym}
use Rattle.spiller.specs.Walks.{HasFlows}
use Rattle.spiller.proofs.FlowsGathered.{flows-none, flows-more}
use Rattle.spiller.proofs.reaching.flows_of.Goals as goal

pub lanes-init : goal.lanes-init
lanes-init c =
    let view = c.args.view in
    subst (HasFlows view.live.now.table view.live.now.func.blocks view.v c.args.touched.now 0) (sym c.new-flows.ensures.items) (flows-none view.live.now.table view.live.now.func.blocks view.v c.args.touched.now)

pub lanes-preserved : goal.lanes-preserved
lanes-preserved c =
    let view = c.args.view in
    let h = c.in_ok-flow_of.ensures in
    subst (HasFlows view.live.now.table view.live.now.func.blocks view.v c.args.touched.now (c.lanes.lane + 1)) (sym c.in_ok-push.ensures.items)
    (flows-more view.live.now.table view.live.now.func.blocks view.v c.args.touched.now c.lanes.lane c.lanes.flows.items c.in_ok-flow_of.field-0 c.lanes.invariant h.lane h.flow)

pub returns : goal.returns
returns c =
    let view = c.args.view in
    let all : c.lanes.lane ≡ c.lane_count-lane-end.result = omega arith in
    subst (λ n. HasFlows view.live.now.table view.live.now.func.blocks view.v c.args.touched.now n c.lanes.flows.items) (all ∙ c.lane_count-lane-end.ensures) c.lanes.invariant
