use Rattle.std.proofs.Common.{◌≡◌, ◌<◌, ◌∙◌, ◌++◌, ◌∷◌, [], List, ap, sym, subst, length, refl}
use Rattle.mir_func.specs.declared.func.Block.{Block}
use Rattle.mir_func.specs.Value.{IsFunction}
use Rattle.mir_func.specs.Edits.{block_place}
use Rattle.unit_tests.proofs.BaseLemmas.Empty.{one_empty_block, block_there}
use Rattle.unit_tests.proofs.base.edits.empty_function.Goals as goal

pub invariant_of-result : goal.invariant_of-result
invariant_of-result c =
    let e : c.push.new.self ≡ c.empty_block.result ∷ [] = c.in_ok-push.ensures.ok ∙ ap (λ xs. xs ++ c.empty_block.result ∷ []) c.new-blocks.ensures in
    let P : List Block → Type 0 = λ bs. IsFunction bs 0 in
    subst P (sym e) (one_empty_block c.empty_block.result c.empty_block.ensures.empty)

pub returns : goal.returns
returns c =
    let e : c.push.new.self ≡ c.empty_block.result ∷ [] = c.in_ok-push.ensures.ok ∙ ap (λ xs. xs ++ c.empty_block.result ∷ []) c.new-blocks.ensures in
    let P : List Block → Type 0 = λ bs. block_place 7 bs < length bs in
    (subst P (sym e) (block_there c.empty_block.result c.empty_block.ensures.number), refl, ap length c.new-3.ensures)
