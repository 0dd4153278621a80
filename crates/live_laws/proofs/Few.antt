-- A function has fewer than 2 ^ 32 instructions, since their ids are distinct numbers of 32 bits.
use Rattle.std.proofs.Common.{◌≡◌, ℕ, zero, suc, ◌+◌, ◌^◌, ◌<◌, ◌≤◌, List, [], ◌∷◌, Bool, true, refl, ap, arith, length, cond, eqb, ltb, get_or}
use Rattle.std.specs.Prelude.{if◌then◌else◌, nat_lt, sum_by}
use Rattle.std.proofs.lemmas.List.Sums.{sum_by-cons, get_or-le-sum_by}
use Rattle.std.proofs.lemmas.Bool.Decides.{nat_tests}
use Rattle.mir_func.specs.declared.func.Block.{Block}
use Rattle.mir_func.specs.declared.func.Instr.{Instr}
use Rattle.mir_func.specs.Value.{id_count, IsFunction}

abbrev one : Bool → ℕ
one b = cond b 1 0

below_one : ℕ → Instr → ℕ
below_one n i = cond (ltb i.id n) 1 0

equal_one : ℕ → Instr → ℕ
equal_one n i = cond (eqb i.id n) 1 0

-- how many have an id below n
below : ℕ → List Instr → ℕ
below n is = sum_by (below_one n) is

step : (m n : ℕ) → cond (ltb m (suc n)) 1 0 ≡ cond (ltb m n) 1 0 + cond (eqb m n) 1 0
step m n = grind (arith, nat_tests)

below_none : (is : List Instr) → below 0 is ≡ 0
unfolding below
below_none [] = refl
below_none (i ∷ is) =
    let e : below_one 0 i ≡ 0 = unfold below_one in grind (arith, nat_tests) in
    omega (arith, sum_by-cons (below_one 0) i is, below_none is, e)

split : (id : ℕ) (i : Instr) (is : List Instr) → id_count id (i ∷ is) ≡ equal_one id i + id_count id is
unfolding equal_one
split id i is = sum_by-cons (λ x. cond (eqb x.id id) 1 0) i is

below_more : (n : ℕ) (is : List Instr) → below (suc n) is ≡ below n is + id_count n is
unfolding below
below_more n [] = refl
below_more n (i ∷ is) =
    let e : below_one (suc n) i ≡ below_one n i + equal_one n i = unfold below_one in unfold equal_one in step i.id n in
    let s = split n i is in
    omega (arith, sum_by-cons (below_one (suc n)) i is, sum_by-cons (below_one n) i is, below_more n is, e, s)

-- distinct ids: at most n are below n
within : (n : ℕ) (is : List Instr) → ((id : ℕ) → id_count id is ≤ 1) → below n is ≤ n
within zero is h = omega (arith, below_none is)
within (suc n) is h = omega (arith, below_more n is, within n is h, h n)

limit : ℕ → ℕ → ℕ
limit id n = if nat_lt id n then 1 else 0

limit_one : (id n : ℕ) → limit id n ≤ 1
unfolding limit
limit_one id n = grind (arith, nat_tests)

limit_below : (id n : ℕ) → 1 ≤ limit id n → ltb id n ≡ true
unfolding limit
limit_below id n h = grind (arith, nat_tests)

own_one : (i : Instr) → equal_one i.id i ≡ 1
unfolding equal_one
own_one i = grind (arith, nat_tests)

below_one_is : (n : ℕ) (i : Instr) → ltb i.id n ≡ true → below_one n i ≡ 1
unfolding below_one
below_one_is n i h = ap one h

-- all are below n
all_below : (n : ℕ) (is : List Instr) → ((id : ℕ) → id_count id is ≤ limit id n) → below n is ≡ length is
unfolding below
all_below n [] h = refl
all_below n (i ∷ is) h =
    let own = own_one i in
    let e = below_one_is n i (limit_below i.id n (omega (arith, h i.id, split i.id i is, own))) in
    omega (arith, sum_by-cons (below_one n) i is, all_below n is (λ id. omega (arith, h id, split id i is)), e)

few : (n : ℕ) (is : List Instr) → ((id : ℕ) → id_count id is ≤ limit id n) → length is ≤ n
few n is h = omega (arith, all_below n is h, within n is (λ id. omega (arith, h id, limit_one id n)))

pub few_instrs : (bs : List Block) (n k : ℕ) (b : Block) → IsFunction bs n → n < 2 ^ 32 → k < length bs → get_or bs k b ≡ b → length b.instrs < 2 ^ 32
few_instrs bs n k b f h l e =
    let here : (id : ℕ) → id_count id b.instrs ≤ limit id n = λ id. unfold limit in omega (arith, ap (λ x. id_count id x.instrs) e, get_or-le-sum_by (λ x. id_count id x.instrs) bs k b l, f.once id) in
    omega (arith, few n b.instrs here)
