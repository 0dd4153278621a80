use Rattle.std.proofs.Common.{Some, sym, subst}
use Rattle.meaning.specs.Facts.{all_known}
use Rattle.alloc_check.specs.Needs.{Least, behind_falls}
use Rattle.alloc_check.specs.Cells.{asked}
use Rattle.alloc_check.proofs.Lawful.{if-more}
use Rattle.alloc_check.proofs.closed.before_falls.Goals as goal

pub returns-in-None-clause-least : goal.returns-in-None-clause-least
returns-in-None-clause-least c =
    if-more _ _ c.before_nothing.result
    (λ yes h. subst (λ o. Least (λ k. all_known (behind_falls o k) (asked c.args.needs.now)) yes (asked c.before_nothing.new.needs)) (sym c.in-None.is) h)
    c.before_nothing.ensures.least

pub returns-in-Some-clause-least : goal.returns-in-Some-clause-least
returns-in-Some-clause-least c =
    let old = asked c.args.needs.now in
    let new = asked c.before_phis.new.needs in
    if-more _ _ c.before_phis.result
    (λ yes h. subst (λ o. Least (λ k. all_known (behind_falls o k) old) yes new) (sym c.in-Some.is)
    (subst (λ a. Least (λ k. all_known (behind_falls (Some (a, c.in-Some.e.1)) k) old) yes new) c.as_slice.ensures
    (subst (λ b. Least (λ k. all_known (behind_falls (Some (c.as_slice.result.now, b)) k) old) yes new) c.as_slice-in-Some.ensures h)))
    c.before_phis.ensures.least
