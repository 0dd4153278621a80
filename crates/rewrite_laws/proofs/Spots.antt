-- Where an instruction of a function with distinct ids stands in its code.
use Rattle.std.proofs.Common.{◌≡◌, ◌≤◌, ℕ, zero, suc, ◌+◌, Bool, true, false, cond, not, List, [], ◌∷◌, ◌++◌, Some, length, drop, map, refl, sym, ap, ◌∙◌, subst, arith, eqb, eq-eqb, le_refl}
use Rattle.std.specs.Prelude.{nat_lt, slice_get}
use Rattle.std.proofs.lemmas.Bool.{le-ltb, lt-ltb}
use Rattle.std.proofs.lemmas.List.Sums.{sum_by-cons}
use Rattle.std.proofs.lemmas.Option.{slice_get_within}
use Rattle.target_base.specs.declared.types.Target.{Target}
use Rattle.mir_func.specs.declared.func.Instr.{Instr}
use Rattle.mir_func.specs.declared.func.Block.{Block}
use Rattle.mir_func.specs.Value.{Function, IsFunction, id_count, id_total}
use Rattle.mir_func.specs.Edits.{instr_place}
use Rattle.mir_meaning.specs.Codes.{block_end, blocks_code}
use Rattle.mir_meaning.specs.Points.{block_rest, from_instr, has_instr, point_item}
use Rattle.live_laws.proofs.Effects.Moving.{some-same}

weight : ℕ → Instr → ℕ
weight x i = cond (eqb i.id x) 1 0

total : ℕ → Block → ℕ
total x b = id_count x b.instrs

count-of : (is : List Instr) (k : ℕ) (i : Instr) → slice_get is k ≡ Some i → 1 ≤ id_count i.id is
unfolding weight
count-of [] k i e = absurd (cc)
count-of (c ∷ is) zero i e =
    let same : c ≡ i = some-same c i e in
    let one : weight i.id c ≡ 1 = ap (λ b. cond b 1 0) (eq-eqb c.id i.id (ap (λ (x : Instr). x.id) same)) in
    omega (arith, one, sum_by-cons (weight i.id) c is)
count-of (c ∷ is) (suc k) i e = omega (arith, count-of is k i e, sum_by-cons (weight i.id) c is)

place-is : (is : List Instr) (k : ℕ) (i : Instr) → slice_get is k ≡ Some i → id_count i.id is ≤ 1 → instr_place i.id is ≡ k
unfolding weight
place-is [] k i e h = absurd (cc)
place-is (c ∷ is) zero i e h = ap (λ b. cond (not b) (1 + instr_place i.id is) 0) (eq-eqb c.id i.id (ap (λ (x : Instr). x.id) (some-same c i e)))
place-is (c ∷ is) (suc k) i e h = go (eqb c.id i.id) refl (place-is is k i e)
  where
    go : (b : Bool) → eqb c.id i.id ≡ b → (id_count i.id is ≤ 1 → instr_place i.id is ≡ k) → cond (not b) (1 + instr_place i.id is) 0 ≡ suc k
    go true g ih = absurd (let one : weight i.id c ≡ 1 = ap (λ b. cond b 1 0) g in omega (arith, one, h, count-of is k i e, sum_by-cons (weight i.id) c is))
    go false g ih =
        let none : weight i.id c ≡ 0 = ap (λ b. cond b 1 0) g in
        let p : instr_place i.id is ≡ k = ih (omega (arith, none, h, sum_by-cons (weight i.id) c is)) in
        omega (arith, p)

no-place : (is : List Instr) (x : ℕ) → id_count x is ≡ 0 → instr_place x is ≡ length is
unfolding weight
no-place [] x h = refl
no-place (c ∷ is) x h = go (eqb c.id x) refl (no-place is x)
  where
    go : (b : Bool) → eqb c.id x ≡ b → (id_count x is ≡ 0 → instr_place x is ≡ length is) → cond (not b) (1 + instr_place x is) 0 ≡ length (c ∷ is)
    go true g ih = absurd (let one : weight x c ≡ 1 = ap (λ b. cond b 1 0) g in omega (arith, one, h, sum_by-cons (weight x) c is))
    go false g ih =
        let none : weight x c ≡ 0 = ap (λ b. cond b 1 0) g in
        let p : instr_place x is ≡ length is = ih (omega (arith, none, h, sum_by-cons (weight x) c is)) in
        omega (arith, p)

has-at : (b : Block) (k : ℕ) (i : Instr) → slice_get b.instrs k ≡ Some i → id_count i.id b.instrs ≤ 1 → has_instr i.id b ≡ true
has-at b k i e h = ap (λ n. nat_lt n (length b.instrs)) (place-is b.instrs k i e h) ∙ lt-ltb k (length b.instrs) (slice_get_within b.instrs k i e)

has-not : (b : Block) (x : ℕ) → id_count x b.instrs ≡ 0 → has_instr x b ≡ false
has-not b x h = ap (λ n. nat_lt n (length b.instrs)) (no-place b.instrs x h) ∙ le-ltb (length b.instrs) (length b.instrs) (le_refl (length b.instrs))

total-of : (pre : List Block) (b : Block) (after : List Block) (k : ℕ) (i : Instr) → slice_get b.instrs k ≡ Some i → 1 ≤ id_total i.id (pre ++ b ∷ after)
unfolding total
total-of [] b after k i e = omega (arith, count-of b.instrs k i e, sum_by-cons (total i.id) b after)
total-of (c ∷ pre) b after k i e = omega (arith, total-of pre b after k i e, sum_by-cons (total i.id) c (pre ++ b ∷ after))

from-here : (t : Target) (f : Function) (pre : List Block) (b : Block) (after : List Block) (k : ℕ) (i : Instr) → slice_get b.instrs k ≡ Some i → id_total i.id (pre ++ b ∷ after) ≤ 1 → from_instr t f i.id (pre ++ b ∷ after) ≡ block_rest t f b after k
unfolding total
from-here t f [] b after k i e h =
    let n : id_count i.id b.instrs ≤ 1 = omega (arith, h, sum_by-cons (total i.id) b after) in
    ap (λ q. cond q (block_rest t f b after (instr_place i.id b.instrs)) (from_instr t f i.id after)) (has-at b k i e n) ∙ ap (block_rest t f b after) (place-is b.instrs k i e n)
from-here t f (c ∷ pre) b after k i e h =
    let n : id_count i.id c.instrs ≡ 0 = omega (arith, h, total-of pre b after k i e, sum_by-cons (total i.id) c (pre ++ b ∷ after)) in
    let m : id_total i.id (pre ++ b ∷ after) ≤ 1 = omega (arith, h, sum_by-cons (total i.id) c (pre ++ b ∷ after)) in
    ap (λ q. cond q (block_rest t f c (pre ++ b ∷ after) (instr_place i.id c.instrs)) (from_instr t f i.id (pre ++ b ∷ after))) (has-not c i.id n) ∙ from-here t f pre b after k i e m

-- lists by what stands before one of them

at-length : {X : Type 0} (pre : List X) (x : X) (after : List X) → slice_get (pre ++ x ∷ after) (length pre) ≡ Some x
at-length [] x after = refl
at-length (y ∷ pre) x after = at-length pre x after

past-length : {X : Type 0} (pre after : List X) → drop (length pre) (pre ++ after) ≡ after
past-length [] after = drop-none after
  where
    drop-none : {X : Type 0} (xs : List X) → drop 0 xs ≡ xs
    drop-none [] = refl
    drop-none (x ∷ xs) = refl
past-length (y ∷ pre) after = past-length pre after

below-one : (b : Bool) → cond b 1 0 ≤ 1
below-one true = omega arith
below-one false = omega arith

-- the code from an instruction of a block on begins with it
pub code-at : (t : Target) (f : Function) → IsFunction f.blocks f.next_id → (pre : List Block) (b : Block) (after : List Block) → pre ++ b ∷ after ≡ f.blocks
    → (front : List Instr) (i : Instr) (back : List Instr) → front ++ i ∷ back ≡ b.instrs
    → from_instr t f i.id f.blocks ≡ point_item t f b i ∷ (map (point_item t f b) back ++ (block_end t f b after ∷ blocks_code (point_item t f) t f after))
code-at t f whole pre b after blocks front i back instrs =
    let place : slice_get b.instrs (length front) ≡ Some i = ap (λ is. slice_get is (length front)) (sym instrs) ∙ at-length front i back in
    let few : id_total i.id f.blocks ≤ 1 = let h = whole.once i.id in let g = below-one (nat_lt i.id f.next_id) in omega (arith, h, g) in
    let once : id_total i.id (pre ++ b ∷ after) ≤ 1 = subst (λ bs. id_total i.id bs ≤ 1) (sym blocks) few in
    let rest : drop (length front) b.instrs ≡ i ∷ back = ap (drop (length front)) (sym instrs) ∙ past-length front (i ∷ back) in
    ap (from_instr t f i.id) (sym blocks)
    ∙ (from-here t f pre b after (length front) i place once
    ∙ ap (λ is. map (point_item t f b) is ++ (block_end t f b after ∷ blocks_code (point_item t f) t f after)) rest)
