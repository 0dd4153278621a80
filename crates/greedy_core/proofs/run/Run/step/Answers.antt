use Rattle.watchers.proofs.Told.{on_err}
use Rattle.greedy_core.proofs.Told.{untold}
use Rattle.greedy_core.proofs.run.Run.step.Goals as goal

-- where no step was done, none was told

pub returns-in_err-done-clause-part : goal.returns-in_err-done-clause-part
returns-in_err-done-clause-part g c = on_err c.from_residual.result (untold (g.W.Watcher.next c.args.target.now) c.args.watchers.now.items)

pub returns-in_err-enter_all-clause-part : goal.returns-in_err-enter_all-clause-part
returns-in_err-enter_all-clause-part g c = on_err c.from_residual-in_err-enter_all.result (untold (g.W.Watcher.next c.args.target.now) c.args.watchers.now.items)
