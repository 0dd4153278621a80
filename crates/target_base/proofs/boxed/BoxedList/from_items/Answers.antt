use Rattle.std.proofs.Common.{◌≡◌, ◌∷◌, [], List, length, refl, sym, ap, ◌∙◌, append_assoc, append-nil, arith}
use Rattle.std.specs.Vec.Iter.{into_iter_items}
use Rattle.target_base.proofs.boxed.BoxedList.from_items.Goals as goal

nothing_left : {X : Type 0} (xs : List X) → length xs ≡ 0 → xs ≡ []
nothing_left [] h = refl
nothing_left (x ∷ xs) h = absurd (omega arith)

pub loop-x-preserved : goal.loop-x-preserved
loop-x-preserved g c =
    let at = c.loop-x in
    let steps : into_iter_items at.x-iterator ≡ c.in-Some.x ∷ into_iter_items c.next.new.self = c.in-Some.ensures.steps.0 in
    let gone = c.in-Some.ensures.steps.1 in
    let short = ap length steps in (
      rw c.in_ok-push.ensures.ok (append_assoc at.made (c.in-Some.x ∷ []) _ ∙ rw (← steps) at.invariant.0),
      omega (arith, at.invariant.1, gone, short),
    )

pub returns : goal.returns
returns g c =
    let at = c.loop-x in
    let empty : into_iter_items at.x-iterator ≡ [] = nothing_left _ (sym at.invariant.1 ∙ c.in-None.ensures.steps.0) in
    sym (append-nil at.made) ∙ rw empty at at.invariant.0
