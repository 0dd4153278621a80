use Rattle.std.proofs.Common.{◌≡◌, refl, ap, subst, ◌∙◌}
use Rattle.meaning.specs.Facts.{Knowledge, all_known}
use Rattle.meaning.specs.Agree.{facts_at}
use Rattle.alloc_check.specs.Needs.{Lead}
use Rattle.alloc_check.specs.Cells.{asked}
use Rattle.alloc_check.specs.Families.{PutsAt}
use Rattle.alloc_check.proofs.Lawful.{ok-more}
use Rattle.alloc_check.proofs.Passing.{passed-covered, passed-put}
use Rattle.alloc_check.proofs.settle.pass_start.Goals as goal

pub returns-then-covers : goal.returns-then-covers
returns-then-covers c =
    let family = c.args.family.now in
    let start = c.in_ok-start.start in
    let same : (k : Knowledge) → all_known k (asked start) ≡ all_known k (facts_at family c.args.n) = λ k. c.in_ok-start.ensures k ∙ ap (all_known k) c.facts_at.ensures in
    let covers : Lead (asked start) (λ k. all_known k (asked c.args.pass.now.needs)) = subst (λ fs. Lead (asked start) (λ k. all_known k fs)) (c.as_slice.ensures ∙ c.in_ok-asked.ensures) (c.covers.ensures c.if-covers.true) in
    passed-covered family c.args.n c.args.pass.now _ same refl covers

pub returns : goal.returns
returns c =
    let old = c.args.pass.now in
    ok-more c.put.result
    (λ puts. passed-put c.args.family.now c.put.new.family c.args.n old _ refl refl (subst (λ fs. PutsAt c.args.family.now c.args.n fs c.put.new.family) c.in_ok-asked.ensures puts))
    c.put.ensures
