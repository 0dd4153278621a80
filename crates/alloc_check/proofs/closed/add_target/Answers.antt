use Rattle.std.proofs.Common.{◌&&◌, sym, subst}
use Rattle.meaning.specs.Facts.{all_known}
use Rattle.meaning.specs.Agree.{known_along, target_holds}
use Rattle.alloc_check.specs.Needs.{Adds, Least}
use Rattle.alloc_check.specs.Cells.{asked}
use Rattle.alloc_check.proofs.Lawful.{if-more}
use Rattle.alloc_check.proofs.closed.add_target.Goals as goal

pub returns-in-Some-clause-enough : goal.returns-in-Some-clause-enough
returns-in-Some-clause-enough c =
    let family = c.args.family.now in
    let old = asked c.args.needs.now in
    let new = asked c.add_along.new.needs in
    let e = c.in-Some.e in
    if-more _ _ c.add_along.result
    (λ yes h x. subst (λ o. Adds old (λ k. target_holds family k o) new) (sym c.in-Some.is) (subst (λ fs. Adds old (λ k. all_known (known_along e k) fs) new) c.facts_at.ensures (h x)))
    c.add_along.ensures.enough

pub returns-in-Some-clause-least : goal.returns-in-Some-clause-least
returns-in-Some-clause-least c =
    let family = c.args.family.now in
    let old = asked c.args.needs.now in
    let new = asked c.add_along.new.needs in
    let e = c.in-Some.e in
    if-more _ _ c.add_along.result
    (λ yes h. subst (λ o. Least (λ k. target_holds family k o && all_known k old) yes new) (sym c.in-Some.is) (subst (λ fs. Least (λ k. all_known (known_along e k) fs && all_known k old) yes new) c.facts_at.ensures h))
    c.add_along.ensures.least
