use Rattle.std.proofs.Common.{◌≡◌, true, sym, ap, ◌∙◌}
use Rattle.std.specs.List.{list_any}
use Rattle.alloc_check.specs.Marks.{source_slot}
use Rattle.alloc_check.specs.Cells.{same_fact}
use Rattle.alloc_check.specs.declared.cells.FactBucket.{FactBucket}
use Rattle.alloc_check.proofs.Celled.{has-found}
use Rattle.alloc_check.proofs.needs.Needs.has.Goals as goal

pub returns-in-Some : goal.returns-in-Some
returns-in-Some c = λ yes.
    let slots = c.args.self.now.slots in
    let fact = c.args.fact.now in
    let at = c.in-Some.ensures in
    let x = c.get.result.now in
    let left : source_slot slots fact.0 ≡ x.left = sym c.source_slot-left.ensures ∙ (sym (at.first x) ∙ ap (λ (z : FactBucket). z.left) (sym c.get.ensures)) in
    let right : source_slot slots fact.1 ≡ x.right = sym c.source_slot-right.ensures ∙ (sym (at.second x) ∙ ap (λ (z : FactBucket). z.right) (sym c.get.ensures)) in
    let among : list_any (λ g. same_fact g fact) x.facts ≡ true = ap (list_any (λ g. same_fact g fact)) (sym c.as_slice.ensures) ∙ (sym c.is_among.ensures ∙ yes) in
    has-found slots c.args.self.now.cells c.in-Some.at x fact at.within c.get.ensures left right among
