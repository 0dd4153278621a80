use Rattle.alloc_check.specs.Cells.{asked}
use Rattle.alloc_check.proofs.Lawful.{if-more}
use Rattle.alloc_check.proofs.Alone.{firsts-alone, alone-firsts}
use Rattle.alloc_check.proofs.closed.step_first.Goals as goal

pub returns-clause-enough : goal.returns-clause-enough
returns-clause-enough c = if-more _ _ c.step_both.result (λ yes h x k l e. firsts-alone c.args.writes.now k (asked c.args.needs.now) (h x k l e)) c.step_both.ensures.enough

pub returns-clause-least : goal.returns-clause-least
returns-clause-least c = if-more _ _ c.step_both.result (λ yes h k l e. h k l (alone-firsts c.args.writes.now k (asked c.args.needs.now) e)) c.step_both.ensures.least
