use Rattle.std.proofs.Common.{List, ◌∷◌}
use Rattle.watchers.specs.declared.steps.Step.{Step}
use Rattle.watchers.specs.declared.steps.Step.TheVariants.{Begin}
use Rattle.watchers.specs.Told.{AllTold}
use Rattle.greedy_core.specs.Ledgers.{Records}
use Rattle.greedy_core.proofs.run.allocate.Given as goal

-- the watchers were told the same steps, which the ledger records
abbrev pub invariant-steps : goal.invariant-steps
invariant-steps g l = (steps : List Step) × AllTold (g.W.Watcher.next l.target) (Begin l.fn.number ∷ steps) l.fn.watchers.items l.watchers.items × Records l.ledger steps
