use Rattle.std.proofs.Common.{◌∙◌, ap, arith, length}
use Rattle.std.proofs.lemmas.List.{length_push}
use Rattle.place_solve.specs.Choice.{options_in}
use Rattle.place_solve.proofs.Firsts.{leads_all, leads_next, leads_none}
use Rattle.place_solve.proofs.search.choice_in_turn.Goals as goal

pub each-init : goal.each-init
each-init c = (ap length c.new-chosen.ensures.items, λ o. leads_none _ _ _ _ c.new-chosen.ensures.items)

pub each-preserved : goal.each-preserved
each-preserved c =
    let grown = ap length c.in_ok-push-in-Some.ensures.items ∙ length_push c.each.chosen.items _ in (
      omega (arith, grown),
      λ o. leads_next c.args.live.now.target c.args.variables.now (options_in c.args.live.now.target c.args.live.now.table c.args.around) c.each.chosen.items c.as_slice.result.now c.push.new.self.items c.each.v-index _ c.first_beside.result _ c.each.invariant.0 c.each-test.true c.as_slice.ensures.value c.in_ok-push-in-Some.ensures.items (c.first_beside.ensures o) c.in-Some.is (c.each.invariant.1 o),
    )

pub returns : goal.returns
returns c = λ o. leads_all c.args.live.now.target c.args.variables.now (options_in c.args.live.now.target c.args.live.now.table c.args.around) c.each.chosen.items (omega arith) (c.each.invariant.1 o)
