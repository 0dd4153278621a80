use Rattle.std.proofs.Common.{◌≡◌, true, IfSome, sym, subst, ◌∙◌}
use Rattle.meaning.specs.Facts.{all_known, known_at_start}
use Rattle.mir_meaning.specs.Codes.{given_of}
use Rattle.alloc_check.specs.Needs.{Suffice}
use Rattle.alloc_check.specs.Cells.{asked}
use Rattle.alloc_check.proofs.Lawful.{lawful-start}
use Rattle.alloc_check.proofs.check.holds.Goals as goal

pub returns-in_ok-list-in-Some : goal.returns-in_ok-list-in-Some
returns-in_ok-list-in-Some c =
    let a = given_of c.args.t.now c.args.f.now in
    let b = given_of c.args.t.now c.args.g.now in
    let suffice : Suffice c.args.family.now c.args.rows.now (asked c.in-Some.needs) = subst (λ o. IfSome o (λ needs. Suffice c.args.family.now c.args.rows.now (asked needs))) c.in-Some.is c.in_ok-needs_before.ensures in
    λ x. suffice (known_at_start a b) (lawful-start a b) (subst (λ fs. all_known (known_at_start a b) fs ≡ true) (c.as_slice-in-Some.ensures ∙ c.in_ok-list-in-Some.ensures) (sym c.all_start.ensures ∙ x))
