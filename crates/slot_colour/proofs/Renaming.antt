-- A function whose slots went to others.
use Rattle.std.proofs.Common.{◌≡◌, ◌<◌, ℕ, ◌+◌, cond, List, [], ◌∷◌, ◌++◌, map, length, take, drop, get_or, set, eqb, refl, ap, ◌∙◌, arith, length-append, length-drop}
use Rattle.std.proofs.lemmas.List.{length-map, length-take, get_or_default}
use Rattle.std.proofs.lemmas.List.Edits.{map_over_more}
use Rattle.std.proofs.lemmas.List.Sums.{sum_by-cons}
use Rattle.mir_func.specs.declared.func.Block.{Block}
use Rattle.mir_func.specs.declared.func.Instr.{Instr}
use Rattle.mir_func.specs.Value.{id_count, id_total, IsFunction}
use Rattle.slot_colour.specs.declared.choice.TakenSlot.{TakenSlot}
use Rattle.slot_colour.specs.Colouring.{renamed_instr, renamed_block}

weight : ℕ → Instr → ℕ
weight x i = cond (eqb i.id x) 1 0

module _ (taken : List TakenSlot) (x : ℕ) where
  ids-in : (is : List Instr) → id_count x (map (renamed_instr taken) is) ≡ id_count x is
  unfolding weight
  ids-in [] = refl
  ids-in (i ∷ is) = omega (arith, sum_by-cons (weight x) i is, sum_by-cons (weight x) (renamed_instr taken i) (map (renamed_instr taken) is), ids-in is)

  ids : (bs : List Block) → id_total x (map (renamed_block taken) bs) ≡ id_total x bs
  ids [] = refl
  ids (b ∷ bs) = omega (arith, sum_by-cons (λ d. id_count x d.instrs) b bs, sum_by-cons (λ d. id_count x d.instrs) (renamed_block taken b) (map (renamed_block taken) bs), ids-in b.instrs, ids bs)

as-long : {X : Type 0} (f : X → X) (xs ys : List X) (k : ℕ) → k < length xs → ys ≡ map f (take k xs) ++ drop k xs → length ys ≡ length xs
as-long f xs ys k h was =
    let long = ap (λ l. length l) was in
    omega (arith, h, long, length-append (map f (take k xs)) (drop k xs), length-map (take k xs) f, length-take k xs, length-drop k xs)

-- one element more that is changed, whatever stood there
pub changed-more : {X : Type 0} (f : X → X) (xs ys zs : List X) (k : ℕ) → k < length xs → ys ≡ map f (take k xs) ++ drop k xs → ((x : X) → x ≡ get_or ys k x → zs ≡ set ys k (f x)) → zs ≡ map f (take (k + 1) xs) ++ drop (k + 1) xs
changed-more f xs [] zs k h was made = absurd (omega (arith, h, as-long f xs [] k h was))
changed-more f xs (y ∷ ys) zs k h was made =
    let long = as-long f xs (y ∷ ys) k h was in
    let x = get_or (y ∷ ys) k y in
    let at : x ≡ get_or (y ∷ ys) k x = get_or_default (y ∷ ys) k y x (omega (arith, h, long)) in
    made x at ∙ map_over_more f xs (y ∷ ys) k x h was at

-- it is a function
pub function-renamed : (taken : List TakenSlot) (n : ℕ) (bs : List Block) → IsFunction bs n → IsFunction (map (renamed_block taken) bs) n
function-renamed taken n bs f = record {
  nonempty = rw length-map f.nonempty;
  once = λ x. rw (ids taken x bs) (f.once x);
}
