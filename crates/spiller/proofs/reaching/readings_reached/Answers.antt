use Rattle.std.proofs.Common.{◌≡◌, ◌∙◌, ◌++◌, ◌∷◌, [], ◌<◌, ap, sym, subst, take, length, arith}
use Rattle.std.proofs.lemmas.List.{take_more, take_all}
use Rattle.spiller.proofs.FlowsGathered.{ListsSome, lists-none, lists-more}
use Rattle.spiller.proofs.reaching.readings_reached.Goals as goal

pub flows-init : goal.flows-init
flows-init c = λ ordered. subst (ListsSome c.args.view.live.now.table c.args.view.v [] c.args.id) (sym c.new-reached.ensures.items) (lists-none c.args.view.live.now.table c.args.view.v c.args.id)

pub flows-preserved : goal.flows-preserved
flows-preserved c =
    let x = c.args.view.live.now.table in
    let flows = c.args.flows.now in
    let i = c.flows.flow-index in
    let flow = c.flow-item.result in
    let within : i < length flows = omega arith in
    let more = take_more flows i flow within ∙ ap (λ w. take i flows ++ w ∷ []) (sym c.flow-item.is) in
    λ ordered. subst (λ fs. ListsSome x c.args.view.v fs c.args.id c.add_definition.new.reached.items) (sym more)
    (lists-more x c.args.view.v (take i flows) flow c.args.id c.flows.reached.items c.add_definition.new.reached.items c.in_ok-add_definition.ensures.others (c.in_ok-add_definition.ensures.own ordered) (c.flows.invariant ordered))

pub returns : goal.returns
returns c =
    let flows = c.args.flows.now in
    let all : take c.flows.flow-index flows ≡ flows = take_all c.flows.flow-index flows (omega arith) in
    λ ordered. (subst (λ fs. ListsSome c.args.view.live.now.table c.args.view.v fs c.args.id c.flows.reached.items) all (c.flows.invariant ordered)).just
