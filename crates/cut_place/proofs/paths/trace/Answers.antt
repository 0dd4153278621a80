use Rattle.std.proofs.Common.{refl, ◌≡◌, ◌<◌, ◌≤◌, ◌+◌, ◌∷◌, ◌++◌, [], List, ℕ, length, arith, subst, sym}
use Rattle.std.proofs.lemmas.Grind.{common_steps}
use Rattle.cut_place.specs.declared.steps.ResidualArc.{ResidualArc}
use Rattle.cut_place.specs.Residual.{tail_of, residual_of}
use Rattle.cut_place.specs.Trails.{LeadsTo, step_at}
use Rattle.cut_place.proofs.Facts.{TraceFacts, trace_goes_on, tail_node}
use Rattle.cut_place.proofs.paths.trace.Goals as goal

pub back-preserved : goal.back-preserved
back-preserved c =
    let s : ResidualArc = step_at c.args.before.now c.back.at in
    let leads : LeadsTo c.args.arcs.now c.args.flow.now c.args.levels.now c.back.at s = c.if-not-leads_to.ensures.0 refl in
    let inside : s.arc < length c.args.arcs.now = leads.0 in
    let items : c.push.new.self.items ≡ c.back.steps.items ++ s ∷ [] = grind (arith, common_steps) in
    let room : c.residual.result ≡ residual_of c.args.arcs.now c.args.flow.now s = c.residual.ensures in
    let at : c.tail-at.result ≡ tail_of c.args.arcs.now s = c.tail-at.ensures in
    let one : 1 ≤ residual_of c.args.arcs.now c.args.flow.now s = leads.2 in
    let some : 1 ≤ c.back.amount = c.back.invariant.some in
    let next : TraceFacts c.args.arcs.now c.args.flow.now c.args.levels.now c.args.before.now c.min-amount.result (c.back.steps.items ++ s ∷ []) (tail_of c.args.arcs.now s) =
    trace_goes_on c.args.arcs.now c.args.flow.now c.args.levels.now c.args.before.now c.back.amount c.back.steps.items c.back.at s c.min-amount.result
    c.back.invariant inside leads (tail_node _ c.args.arcs.now s c.requires.ends inside)
    (omega (arith, c.min-amount.ensures, one, some, room)) (omega (arith, c.min-amount.ensures)) (omega (arith, c.min-amount.ensures, room)) in
    subst (λ (l : List ResidualArc). TraceFacts c.args.arcs.now c.args.flow.now c.args.levels.now c.args.before.now c.min-amount.result l c.tail-at.result) (sym items)
    (subst (λ (v : ℕ). TraceFacts c.args.arcs.now c.args.flow.now c.args.levels.now c.args.before.now c.min-amount.result (c.back.steps.items ++ s ∷ []) v) (sym at) next)
