use Rattle.std.proofs.Common.{◌∙◌, map, ap, subst, arith}
use Rattle.std.proofs.lemmas.List.{take_all}
use Rattle.meaning.specs.Live.{Among as Member}
use Rattle.instr_effects.proofs.Members.{member-none}
use Rattle.live_lanes.specs.Looks.{InOrder}
use Rattle.spiller.specs.declared.reaching.Definition.{Definition}
use Rattle.spiller.specs.Readings.{TellsConstant}
use Rattle.spiller.specs.Walks.{ListsFlows}
use Rattle.spiller.proofs.FlowsGathered.{defined-more, each-more}
use Rattle.spiller.proofs.ReachesTold.{all-told, in-order}
use Rattle.spiller.proofs.reaching.definitions_of.Goals as goal

pub touched-init : goal.touched-init
touched-init c =
    let none = c.new-definitions.ensures.items in
    record { constants = λ d m. absurd (member-none d (subst (Member d) none m)); ids = ap (map (λ (d : Definition). d.id)) none; each = λ ordered d m. absurd (member-none d (subst (Member d) none m)) }

-- (the flows that the definition was made of are those of the loop)
listed-flows : (c : goal.In_ok-push) → InOrder c.args.view.live.now.table → ListsFlows c.args.view.live.now.table c.args.view.v c.in_ok-flows.flows.items c.in_ok-definition_of.field-0
listed-flows c ordered = subst (λ fs. ListsFlows c.args.view.live.now.table c.args.view.v fs c.in_ok-definition_of.field-0) c.as_slice.ensures.value (c.in_ok-definition_of.ensures.reached ordered)

pub touched-preserved : goal.touched-preserved
touched-preserved c =
    let old = c.touched.definitions.items in
    let d = c.in_ok-definition_of.field-0 in
    let more = c.in_ok-push.ensures.items in
    let told = c.in_ok-definition_of.ensures in
    record {
      constants = each-more (TellsConstant c.args.view.target.now c.args.view.live.now.func c.args.view.live.now.table) old c.push.new.self.items d c.touched.invariant.constants told.constant more;
      ids = defined-more c.args.touched.now c.touched.id-index old c.push.new.self.items d (omega arith) c.touched.invariant.ids told.id more;
      each = λ ordered. each-more (ListsFlows c.args.view.live.now.table c.args.view.v c.in_ok-flows.flows.items) old c.push.new.self.items d (c.touched.invariant.each ordered) (listed-flows c ordered) more;
    }

pub returns-clause-ids : goal.returns-clause-ids
returns-clause-ids c = c.touched.invariant.ids ∙ take_all c.touched.id-index c.args.touched.now (omega arith)

pub returns-clause-constants : goal.returns-clause-constants
returns-clause-constants c = c.touched.invariant.constants

pub returns-clause-told : goal.returns-clause-told
returns-clause-told c = λ may are.
    let view = c.args.view in
    all-told view.target.now view.live.now.func view.live.now.table view.v may c.args.touched.now are c.in_ok-flows.flows.items c.in_ok-flows.ensures c.touched.definitions.items
    (c.touched.invariant.ids ∙ take_all c.touched.id-index c.args.touched.now (omega arith))
    (c.touched.invariant.each (in-order view.target.now view.live.now.func view.live.now.table view.v may c.args.touched.now are))
