use Rattle.std.proofs.Common.{◌∙◌}
use Rattle.interference.proofs.held.HeldList.gap_for.Goals as goal

pub returns-then-not-is_full-clause-gap : goal.returns-then-not-is_full-clause-gap
returns-then-not-is_full-clause-gap c = record { part = c.behind-gap.ensures.room c.in_ok-begin.ensures.some; within = c.behind-gap.ensures.within; begun = c.behind-gap.ensures.before }

pub returns-clause-gap : goal.returns-clause-gap
returns-clause-gap c = record { part = c.behind.ensures.room (c.halve.ensures.some c.in_ok-begin.ensures.some); within = c.behind.ensures.within; begun = c.behind.ensures.before }

pub returns-clause-held : goal.returns-clause-held
returns-clause-held c = c.halve.ensures.held ∙ c.begin.ensures.held

pub returns-clause-filled : goal.returns-clause-filled
returns-clause-filled c = λ full. c.halve.ensures.filled (c.is_full.ensures c.if-not-is_full.false) (c.begin.ensures.filled full)
