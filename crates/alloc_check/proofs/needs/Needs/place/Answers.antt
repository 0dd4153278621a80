use Rattle.std.proofs.Common.{◌≡◌, ◌++◌, ◌∷◌, [], refl, sym, ap, ◌∙◌}
use Rattle.meaning.specs.Facts.{all_known}
use Rattle.alloc_check.specs.Marks.{source_slot}
use Rattle.alloc_check.specs.Cells.{asked_in}
use Rattle.alloc_check.specs.declared.cells.FactBucket.{FactBucket}
use Rattle.alloc_check.proofs.Lawful.{ok-more}
use Rattle.alloc_check.proofs.Celled.{cell-puts, puts-at, puts-behind}
use Rattle.alloc_check.proofs.needs.Needs.place.Goals as goal

pub returns-in-Some : goal.returns-in-Some
returns-in-Some c =
    let slots = c.args.self.now.slots in
    let fact = c.args.fact in
    let at = c.in-Some.ensures in
    let x = c.get_mut.result.now in
    let y : FactBucket = record { left = x.left; right = x.right; facts = c.push.new.self } in
    let left : source_slot slots fact.0 ≡ x.left = sym c.source_slot-left.ensures ∙ (sym (at.first x) ∙ ap (λ (z : FactBucket). z.left) (sym c.get_mut.ensures.value)) in
    let right : source_slot slots fact.1 ≡ x.right = sym c.source_slot-right.ensures ∙ (sym (at.second x) ∙ ap (λ (z : FactBucket). z.right) (sym c.get_mut.ensures.value)) in
    ok-more c.push.result (λ e. puts-at slots c.args.self.now.cells c.in-Some.at x y fact at.within c.get_mut.ensures.value (cell-puts slots x y fact refl refl e left right)) c.push.ensures.ok

pub returns-in_ok-push-in-None : goal.returns-in_ok-push-in-None
returns-in_ok-push-in-None c =
    let slots = c.args.self.now.slots in
    let fact = c.args.fact in
    let y : FactBucket = record { left = c.source_slot-left.result; right = c.source_slot-right.result; facts = c.push-in-None.new.self } in
    let own : y.facts ≡ [] ++ fact ∷ [] = c.in_ok-push-in-None.ensures.ok ∙ ap (λ fs. fs ++ fact ∷ []) c.new-facts.ensures in
    ok-more c.push-in-None-2.result
    (λ e k. ap (λ cs. all_known k (asked_in slots cs)) e ∙ puts-behind slots c.args.self.now.cells y fact own (sym c.source_slot-left.ensures) (sym c.source_slot-right.ensures) k)
    c.push-in-None-2.ensures.ok
