use Rattle.std.proofs.Common.{subst}
use Rattle.meaning.specs.Facts.{all_known, known_second}
use Rattle.alloc_check.specs.Needs.{Least}
use Rattle.alloc_check.specs.Cells.{asked}
use Rattle.alloc_check.proofs.Lawful.{if-more}
use Rattle.alloc_check.proofs.Steps.{falls-on, falls-least, falls-never}
use Rattle.alloc_check.proofs.closed.before_phis.Goals as goal

pub returns-clause-enough : goal.returns-clause-enough
returns-clause-enough c =
    if-more _ _ c.step_first.result
    (λ yes h x family rows s. falls-on (c.args.first.now, c.args.second.now) (asked c.args.needs.now) (asked c.step_second.new.needs) (asked c.step_first.new.needs) (c.in_ok-step_second.ensures.enough c.if-not-branch.false) (h x) family rows s)
    c.step_first.ensures.enough

pub returns-then-not-branch-clause-least : goal.returns-then-not-branch-clause-least
returns-then-not-branch-clause-least c =
    falls-never c.args.first.now c.args.second.now (asked c.args.needs.now) (asked c.step_second.new.needs) (asked c.step_second.new.needs)
    (subst (λ b. Least (λ k. all_known (known_second c.args.second.now k) (asked c.args.needs.now)) b (asked c.step_second.new.needs)) c.if-not-branch.true c.in_ok-step_second.ensures.least)

pub returns-clause-least : goal.returns-clause-least
returns-clause-least c =
    let middle = asked c.step_second.new.needs in
    if-more _ _ c.step_first.result
    (λ yes h. falls-least c.args.first.now c.args.second.now (asked c.args.needs.now) middle (asked c.step_first.new.needs) yes
    (subst (λ b. Least (λ k. all_known (known_second c.args.second.now k) (asked c.args.needs.now)) b middle) c.if-not-branch.false c.in_ok-step_second.ensures.least) h)
    c.step_first.ensures.least
