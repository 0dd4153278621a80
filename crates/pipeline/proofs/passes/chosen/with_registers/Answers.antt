use Rattle.std.proofs.Common.{◌∷◌}
use Rattle.watchers.specs.declared.steps.Step.TheVariants.{Begin}
use Rattle.watchers.proofs.Told.{on_err}
use Rattle.greedy_core.proofs.Told.{untold, all_told}
use Rattle.pipeline.proofs.passes.chosen.with_registers.Goals as goal

pub returns-in_err-live-clause-part : goal.returns-in_err-live-clause-part
returns-in_err-live-clause-part g c = on_err c.from_residual.result (untold (g.W.Watcher.next c.args.target.now) c.args.watchers.now.items)

-- the run had come to its end
pub returns-in_err-made-clause-part : goal.returns-in_err-made-clause-part
returns-in_err-made-clause-part g c =
    on_err c.from_residual-in_err-made.result
    (all_told (g.W.Watcher.next c.args.target.now) c.args.watchers.now.items c.allocate.new.watchers.items (Begin c.args.number ∷ c.in_ok-done.ensures.told.0) c.in_ok-done.ensures.told.1)

pub returns-in_err-colour_slots-clause-part : goal.returns-in_err-colour_slots-clause-part
returns-in_err-colour_slots-clause-part g c =
    on_err c.from_residual-in_err-colour_slots.result
    (all_told (g.W.Watcher.next c.args.target.now) c.args.watchers.now.items c.allocate.new.watchers.items (Begin c.args.number ∷ c.in_ok-done.ensures.told.0) c.in_ok-done.ensures.told.1)
