use Rattle.std.proofs.Common.{[], ◌∷◌, ◌++◌, map, ◌∙◌, ap}
use Rattle.watchers.specs.declared.steps.Step.TheVariants.{Begin}
use Rattle.watchers.specs.Told.{told}
use Rattle.watchers.proofs.Told.{on_err}
use Rattle.watchers.proofs.Runs.{none_told, all_on, part_more, part_on}
use Rattle.greedy_core.proofs.Told.{untold, all_told}
use Rattle.greedy_core.proofs.run.allocate.Goals as goal

pub returns-in_err-run-clause-part : goal.returns-in_err-run-clause-part
returns-in_err-run-clause-part g c = on_err c.from_residual.result (untold (g.W.Watcher.next c.args.target.now) c.args.watchers.now.items)

pub returns-in_err-tell_all-clause-part : goal.returns-in_err-tell_all-clause-part
returns-in_err-tell_all-clause-part g c =
    let old = c.args.watchers.now.items in
    on_err c.from_residual-in_err-tell_all.result (
      Begin c.args.number ∷ [],
      part_more (g.W.Watcher.next c.args.target.now) old old c.tell_all.new.watchers.items [] (Begin c.args.number)
          (none_told (g.W.Watcher.next c.args.target.now) old) c.in_err-tell_all.ensures.err,
    )

pub returns-in_err-step-clause-part : goal.returns-in_err-step-clause-part
returns-in_err-step-clause-part g c =
    on_err c.from_residual-in_err-step.result (
      (Begin c.args.number ∷ c.steps.invariant.0) ++ c.in_err-step.ensures.part.0,
      part_on (g.W.Watcher.next c.args.target.now) c.args.watchers.now.items c.steps.watchers.items c.step.new.watchers.items (Begin c.args.number ∷ c.steps.invariant.0) c.in_err-step.ensures.part.0
          c.steps.invariant.1 c.in_err-step.ensures.part.1,
    )

pub steps-preserved : goal.steps-preserved
steps-preserved g c = (
  c.steps.invariant.0 ++ c.in_ok-step.ensures.told.0,
  c.in_ok-step.ensures.told.1 ∙ ap (map (λ w. told (g.W.Watcher.next c.args.target.now) w c.in_ok-step.ensures.told.0)) c.steps.invariant.1
      ∙ all_on (g.W.Watcher.next c.args.target.now) c.args.watchers.now.items (Begin c.args.number ∷ c.steps.invariant.0) c.in_ok-step.ensures.told.0,
  c.in_ok-step.ensures.told.2 c.steps.invariant.0 c.steps.invariant.2,
)

pub returns-clause-part : goal.returns-clause-part
returns-clause-part g c =
    all_told (g.W.Watcher.next c.args.target.now) c.args.watchers.now.items c.steps.watchers.items (Begin c.args.number ∷ c.steps.invariant.0) c.steps.invariant.1
