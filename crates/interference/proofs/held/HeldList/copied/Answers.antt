use Rattle.std.proofs.Common.{◌≡◌, ◌≤◌, ◌<◌, ◌∙◌, ap, sym, subst, slice_get, get_or, Some, take, length, arith, ◌+◌, List}
use Rattle.std.specs.Prelude.{map}
use Rattle.interference.specs.Clashes.{part_of}
use Rattle.interference.proofs.Thinned.{get-within}
use Rattle.interference.proofs.PutBack.{Part, all-taken, copied-more}
use Rattle.interference.proofs.held.HeldList.copied.Goals as goal

pub parts-preserved : goal.parts-preserved
parts-preserved c =
    let ps = c.args.self.now.parts.items in
    let same = c.as_slice-part-items.ensures.value in
    let lt : c.parts.part-index < length ps = let e = ap (λ (xs : List Part). length xs) same in omega arith in
    let at : slice_get ps c.parts.part-index ≡ Some c.part-item.result = get-within ps c.parts.part-index c.part-item.result lt (c.part-item.is ∙ ap (λ (xs : List Part). get_or xs c.parts.part-index c.part-item.result) same) in
    subst (λ xs. map part_of xs ≡ take (c.parts.part-index + 1) (map part_of ps)) (sym c.in_ok-push.ensures.items)
    (copied-more ps c.parts.parts.items c.parts.part-index c.part-item.result c.in_ok-from_slice.field-0 c.parts.invariant at (c.in_ok-from_slice.ensures.items ∙ c.as_slice.ensures.value))

pub returns : goal.returns
returns c =
    let ps = c.args.self.now.parts.items in
    let le : length ps ≤ c.parts.part-index = let e = ap (λ (xs : List Part). length xs) c.as_slice-part-items.ensures.value in omega arith in
    c.parts.invariant ∙ all-taken ps c.parts.part-index le
