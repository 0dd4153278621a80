use Rattle.std.proofs.Common.{List, ◌++◌, take}
use Rattle.watchers.specs.declared.steps.Step.{Step}
use Rattle.greedy_core.specs.Ledgers.{Records}
use Rattle.greedy_core.proofs.ledger.StepBudget.enter_all.Given as goal

abbrev pub invariant-steps : goal.invariant-steps
invariant-steps l = (done : List Step) → Records l.fn.self done → Records l.self (done ++ take l.step-index l.step-items)
