use Rattle.alloc_check.proofs.closed.before_row.Goals as goal

pub returns-clause-enough : goal.returns-clause-enough
returns-clause-enough c = c.before_asking.ensures.enough

pub returns-clause-least : goal.returns-clause-least
returns-clause-least c = c.before_asking.ensures.least
