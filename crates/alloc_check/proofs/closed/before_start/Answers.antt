use Rattle.std.proofs.Common.{◌≡◌, subst, ap, ◌∙◌}
use Rattle.meaning.specs.Facts.{Knowledge, all_known}
use Rattle.meaning.specs.Agree.{facts_at}
use Rattle.alloc_check.specs.Needs.{Lead}
use Rattle.alloc_check.specs.Cells.{asked}
use Rattle.alloc_check.proofs.Steps.{carry-start}
use Rattle.alloc_check.proofs.closed.before_start.Goals as goal

pub returns : goal.returns
returns c =
    let start = c.in_ok-start.start in
    let at = facts_at c.args.family.now c.args.n in
    let same : (k : Knowledge) → all_known k (asked start) ≡ all_known k at = λ k. c.in_ok-start.ensures k ∙ ap (all_known k) c.facts_at.ensures in
    let covered : Lead (asked start) (λ k. all_known k (asked c.args.needs.now)) = subst (λ fs. Lead (asked start) (λ k. all_known k fs)) (c.as_slice-2.ensures ∙ c.in_ok-list.ensures) (c.covers.ensures c.if-not-covers.false) in
    λ x. carry-start c.args.family.now c.args.n (asked c.args.needs.now) (asked start) same covered
