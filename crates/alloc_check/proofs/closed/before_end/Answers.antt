use Rattle.std.proofs.Common.{◌&&◌, subst}
use Rattle.meaning.specs.Facts.{all_known}
use Rattle.meaning.specs.Agree.{ways_hold}
use Rattle.alloc_check.specs.Needs.{Adds, Least, behind_falls}
use Rattle.alloc_check.specs.Cells.{asked}
use Rattle.alloc_check.proofs.Lawful.{if-more}
use Rattle.alloc_check.proofs.Steps.{carry-end, end-least, end-never}
use Rattle.alloc_check.proofs.closed.before_end.Goals as goal

pub returns-clause-enough : goal.returns-clause-enough
returns-clause-enough c =
    let family = c.args.family.now in
    let middle = asked c.before_falls.new.needs in
    if-more _ _ c.add_ways.result
    (λ yes h x. carry-end family c.args.falls.now c.args.exits.now (asked c.args.needs.now) middle (asked c.add_ways.new.needs)
    (λ rows s. c.in_ok-before_falls.ensures.enough c.if-not-branch.false family rows s)
    (subst (λ es. Adds middle (λ k. ways_hold family k es) (asked c.add_ways.new.needs)) c.as_slice.ensures (h x)))
    c.add_ways.ensures.enough

pub returns-then-not-branch-clause-least : goal.returns-then-not-branch-clause-least
returns-then-not-branch-clause-least c =
    end-never c.args.family.now c.args.falls.now c.args.exits.now (asked c.args.needs.now) (asked c.before_falls.new.needs)
    (subst (λ b. Least (λ k. all_known (behind_falls c.args.falls.now k) (asked c.args.needs.now)) b (asked c.before_falls.new.needs)) c.if-not-branch.true c.in_ok-before_falls.ensures.least)

pub returns-clause-least : goal.returns-clause-least
returns-clause-least c =
    let family = c.args.family.now in
    let middle = asked c.before_falls.new.needs in
    if-more _ _ c.add_ways.result
    (λ yes h. end-least family c.args.falls.now c.args.exits.now (asked c.args.needs.now) middle (asked c.add_ways.new.needs) yes
    (subst (λ b. Least (λ k. all_known (behind_falls c.args.falls.now k) (asked c.args.needs.now)) b middle) c.if-not-branch.false c.in_ok-before_falls.ensures.least)
    (subst (λ es. Least (λ k. ways_hold family k es && all_known k middle) yes (asked c.add_ways.new.needs)) c.as_slice.ensures h))
    c.add_ways.ensures.least
