use Rattle.std.proofs.Common.{◌∙◌, ◌+◌, ◌++◌, ◌∷◌, [], ap, take, map, sym, subst}
use Rattle.std.proofs.lemmas.List.{take_more}
use Rattle.watchers.specs.Told.{told, PartTold}
use Rattle.watchers.proofs.Told.{on_err}
use Rattle.watchers.proofs.Runs.{none_told, all_more, part_more, part_of_all}
use Rattle.watchers.proofs.telling.tell_steps.Goals as goal

pub steps-init : goal.steps-init
steps-init g c = none_told (g.W.Watcher.next c.args.target.now) c.args.watchers.now.items

pub returns-in_err-tell_all-clause-err : goal.returns-in_err-tell_all-clause-err
returns-in_err-tell_all-clause-err g c =
    let next = g.W.Watcher.next c.args.target.now in
    let old = c.args.watchers.now.items in
    let items = c.as_slice-step-items.result.now in
    let more = take_more items c.steps.step-index c.step-item.result c.steps-test.true ∙ ap (λ s. take c.steps.step-index items ++ s ∷ []) (sym c.step-item.is) in
    on_err c.from_residual.result
    (subst (λ steps. PartTold next steps old c.tell_all.new.watchers.items) c.as_slice-step-items.ensures
    (part_of_all next old c.tell_all.new.watchers.items items (c.steps.step-index + 1)
    (subst (λ steps. PartTold next steps old c.tell_all.new.watchers.items) (sym more)
    (part_more next old c.steps.watchers.items c.tell_all.new.watchers.items (take c.steps.step-index items) c.step-item.result c.steps.invariant c.in_err-tell_all.ensures.err))))

pub steps-preserved : goal.steps-preserved
steps-preserved g c =
    let next = g.W.Watcher.next c.args.target.now in
    let old = c.args.watchers.now.items in
    let items = c.as_slice-step-items.result.now in
    let more = take_more items c.steps.step-index c.step-item.result c.steps-test.true ∙ ap (λ s. take c.steps.step-index items ++ s ∷ []) (sym c.step-item.is) in
    c.in_ok-tell_all.ensures.ok ∙ ap (map (λ w. next w c.step-item.result)) c.steps.invariant
    ∙ all_more next old (take c.steps.step-index items) c.step-item.result
    ∙ ap (λ steps. map (λ w. told next w steps) old) (sym more)
