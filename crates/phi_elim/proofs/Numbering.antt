-- Ids given anew: what is numbered so far, and that ids are distinct.
use Rattle.std.proofs.Common.{◌≡◌, ℕ, zero, suc, ◌+◌, ◌<◌, ◌≤◌, Bool, true, false, cond, eqb, nat_lt, if◌then◌else◌, List, [], ◌∷◌, ◌++◌, length, get_or, set, take, drop, refl, ap, sym, ◌∙◌, arith}
use Rattle.std.specs.List.{sum_by}
use Rattle.std.proofs.lemmas.List.{drop_more, drop-set-lt}
use Rattle.std.proofs.lemmas.List.Sums.{sum_by-cons}
use Rattle.std.proofs.lemmas.Bool.Decides.{nat_tests}
use Rattle.mir_func.specs.declared.func.Instr.{Instr}
use Rattle.mir_func.specs.declared.func.Block.{Block}
use Rattle.mir_func.specs.Value.{id_count, id_total}
use Rattle.phi_elim.specs.Numbered.{numbered, blocks_numbered, instr_count}
use Rattle.phi_elim.proofs.Walks.{walk_more}
use Rattle.phi_elim.proofs.Arriving.{instr_count_more}

pub number_more : (n k : ℕ) (is total : List Instr) (x y : Instr) → k < length is → x ≡ get_or is k x → y ≡ record x { id = n } → take k is ++ numbered n (drop k is) ≡ total → take (k + 1) (set is k y) ++ numbered (n + 1) (drop (k + 1) (set is k y)) ≡ total
number_more n k is total x y h at made was =
    let rest : numbered n (drop k is) ≡ y ∷ numbered (n + 1) (drop (k + 1) is) = rw (drop_more is k x h, ← at, made) refl in
    rw (drop-set-lt (k + 1) is k y (omega arith)) (walk_more is k y _ _ total h was rest)

pub number_block_more : (n k : ℕ) (bs total : List Block) (x y : Block) → k < length bs → x ≡ get_or bs k x → y ≡ record x { instrs = numbered n x.instrs } → take k bs ++ blocks_numbered n (drop k bs) ≡ total → take (k + 1) (set bs k y) ++ blocks_numbered (n + length x.instrs) (drop (k + 1) (set bs k y)) ≡ total
number_block_more n k bs total x y h at made was =
    let rest : blocks_numbered n (drop k bs) ≡ y ∷ blocks_numbered (n + length x.instrs) (drop (k + 1) bs) = rw (drop_more bs k x h, ← at, made) refl in
    rw (drop-set-lt (k + 1) bs k y (omega arith)) (walk_more bs k y _ _ total h was rest)

pub count_left : (k : ℕ) (bs : List Block) (x y : Block) → k < length bs → x ≡ get_or bs k x → instr_count (drop k bs) ≡ length x.instrs + instr_count (drop (k + 1) (set bs k y))
count_left k bs x y h at = rw (drop-set-lt (k + 1) bs k y (omega arith)) (instr_count_more k bs x h at)

weight : ℕ → Instr → ℕ
weight x i = cond (eqb i.id x) 1 0

-- an id stands at most once among numbered instructions, and only where it is one of their numbers
head_of : (n x l count : ℕ) → count ≤ (if nat_lt x (n + 1 + l) then (if nat_lt x (n + 1) then 0 else 1) else 0) → cond (eqb n x) 1 0 + count ≤ (if nat_lt x (n + suc l) then (if nat_lt x n then 0 else 1) else 0)
head_of n x l count h = grind (arith, nat_tests)

numbered_once : (n x : ℕ) (is : List Instr) → id_count x (numbered n is) ≤ (if nat_lt x (n + length is) then (if nat_lt x n then 0 else 1) else 0)
unfolding weight
numbered_once n x [] = grind (arith, nat_tests)
numbered_once n x (i ∷ is) =
    let numbered_first : Instr = record i { id = n } in
    rw (sum_by-cons (weight x) numbered_first (numbered (n + 1) is)) (head_of n x (length is) (id_count x (numbered (n + 1) is)) (numbered_once (n + 1) x is))

two_of : (n m l x a b : ℕ) → a ≤ (if nat_lt x (n + m) then (if nat_lt x n then 0 else 1) else 0) → b ≤ (if nat_lt x (n + m + l) then (if nat_lt x (n + m) then 0 else 1) else 0) → a + b ≤ (if nat_lt x (n + (m + l)) then (if nat_lt x n then 0 else 1) else 0)
two_of n m l x a b ha hb = grind (arith, nat_tests)

blocks_once : (n x : ℕ) (bs : List Block) → id_total x (blocks_numbered n bs) ≤ (if nat_lt x (n + instr_count bs) then (if nat_lt x n then 0 else 1) else 0)
blocks_once n x [] = grind (arith, nat_tests)
blocks_once n x (b ∷ bs) =
    let first : Block = record b { instrs = numbered n b.instrs } in
    rw (sum_by-cons (λ (y : Block). id_count x y.instrs) first (blocks_numbered (n + length b.instrs) bs), sum_by-cons (λ (y : Block). length y.instrs) b bs)
    (two_of n (length b.instrs) (instr_count bs) x _ _ (numbered_once n x b.instrs) (blocks_once (n + length b.instrs) x bs))

from_zero : (x l count : ℕ) → count ≤ (if nat_lt x (0 + l) then (if nat_lt x 0 then 0 else 1) else 0) → count ≤ (if nat_lt x l then 1 else 0)
from_zero x l count h = grind (arith, nat_tests)

pub ids_once : (x : ℕ) (bs : List Block) → id_total x (blocks_numbered 0 bs) ≤ (if nat_lt x (instr_count bs) then 1 else 0)
ids_once x bs = from_zero x (instr_count bs) _ (blocks_once 0 x bs)

pub length-blocks_numbered : (n : ℕ) (bs : List Block) → length (blocks_numbered n bs) ≡ length bs
length-blocks_numbered n [] = refl
length-blocks_numbered n (b ∷ bs) = ap suc (length-blocks_numbered (n + length b.instrs) bs)

pub ruleset numbering = (number_more, number_block_more, count_left)
