use Rattle.std.proofs.Common.{subst}
use Rattle.meaning.specs.Facts.{all_known, known_first}
use Rattle.alloc_check.specs.Needs.{Lead, Least}
use Rattle.alloc_check.specs.Cells.{asked}
use Rattle.alloc_check.proofs.Lawful.{if-more}
use Rattle.alloc_check.proofs.Steps.{carry-first}
use Rattle.alloc_check.proofs.closed.before_first_silent.Goals as goal

pub returns-clause-enough : goal.returns-clause-enough
returns-clause-enough c =
    if-more _ _ c.step_first.result
    (λ yes h x family reads. carry-first family reads c.args.writes.now (asked c.args.needs.now) (asked c.step_first.new.needs) (subst (λ ws. Lead (asked c.step_first.new.needs) (λ k. all_known (known_first ws k) (asked c.args.needs.now))) c.as_slice.ensures (h x)))
    c.step_first.ensures.enough

pub returns-clause-least : goal.returns-clause-least
returns-clause-least c =
    if-more _ _ c.step_first.result
    (λ yes h. subst (λ ws. Least (λ k. all_known (known_first ws k) (asked c.args.needs.now)) yes (asked c.step_first.new.needs)) c.as_slice.ensures h)
    c.step_first.ensures.least
