-- The points of a function can be counted in 64 bits, since its blocks and its ids can be in 32 bits.
use Rattle.std.proofs.Common.{◌≡◌, ◌<◌, ◌≤◌, ℕ, zero, suc, ◌+◌, Bool, true, false, cond, length, List, [], ◌∷◌, ◌++◌, refl, ap, arith}
use Rattle.std.specs.Prelude.{nat_eq, nat_lt, flat_map}
use Rattle.std.proofs.lemmas.Bool.{ltb-true, lt-ltb}
use Rattle.std.proofs.lemmas.Bool.Decides.{nat_tests}
use Rattle.mir_func.specs.declared.func.Block.{Block}
use Rattle.mir_func.specs.declared.func.Instr.{Instr}
use Rattle.mir_func.specs.Value.{IsFunction, id_total}
use Rattle.mir_meaning.specs.Points.{Entry, Exit, block_points}
use Rattle.live_lanes.specs.Ordered.{times, ids_of, all_ids, AreSingle}
use Rattle.live_lanes.specs.Held.{one}
use Rattle.live_lanes.proofs.Ordered.{times-first, times-behind, times-total, once-single}

-- how many numbers are below a bound
abbrev tally : ℕ → List ℕ → ℕ
tally n [] = 0
tally n (x ∷ xs) = one (nat_lt x n) + tally n xs

one-more : (x n : ℕ) → one (nat_lt x (suc n)) ≡ one (nat_lt x n) + one (nat_eq x n)
one-more x n = grind (arith, nat_tests)

never-below : (x : ℕ) → one (nat_lt x 0) ≡ 0
never-below x = grind (arith, nat_tests)

times-step : (n x : ℕ) (xs : List ℕ) → times n (x ∷ xs) ≡ one (nat_eq x n) + times n xs
times-step n x xs = go (nat_eq x n)
  where
    go : (t : Bool) → cond t (suc (times n xs)) (times n xs) ≡ one t + times n xs
    go true = omega arith
    go false = omega arith

tally-none : (xs : List ℕ) → tally 0 xs ≡ 0
tally-none [] = refl
tally-none (x ∷ xs) = omega (arith, never-below x, tally-none xs)

tally-more : (n : ℕ) (xs : List ℕ) → tally (suc n) xs ≡ tally n xs + times n xs
tally-more n [] = refl
tally-more n (x ∷ xs) = omega (arith, one-more x n, times-step n x xs, tally-more n xs)

-- single numbers: at most so many are below a bound
tally-few : (n : ℕ) (xs : List ℕ) → AreSingle xs → tally n xs ≤ n
tally-few zero xs s = omega (arith, tally-none xs)
tally-few (suc n) xs s = omega (arith, tally-more n xs, tally-few n xs s, s n)

tally-all : (n : ℕ) (xs : List ℕ) → ((x : ℕ) → 1 ≤ times x xs → x < n) → tally n xs ≡ length xs
tally-all n [] below = refl
tally-all n (x ∷ xs) below =
    let here : x < n = below x (omega (arith, times-first x xs)) in
    let counted : one (nat_lt x n) ≡ 1 = ap one (lt-ltb x n here) in
    omega (arith, counted, tally-all n xs (λ y m. below y (omega (arith, m, times-behind y x xs))))

few-ids : (bs : List Block) (n : ℕ) → IsFunction bs n → length (all_ids bs) ≤ n
few-ids bs n f = omega (arith, tally-few n (all_ids bs) (once-single bs n f), tally-all n (all_ids bs) below)
  where
    below : (x : ℕ) → 1 ≤ times x (all_ids bs) → x < n
    below x m = go (nat_lt x n) refl (f.once x)
      where
        go : (t : Bool) → nat_lt x n ≡ t → id_total x bs ≤ cond t 1 0 → x < n
        go true e h = ltb-true x n e
        go false e h = absurd (omega (arith, h, m, times-total x bs))

-- each block has a start, each instruction an entry and an exit

length-both : {X : Type 0} (xs ys : List X) → length (xs ++ ys) ≡ length xs + length ys
length-both [] ys = omega arith
length-both (x ∷ xs) ys = omega (arith, length-both xs ys)

instr-points : (is : List Instr) → length (flat_map (λ (i : Instr). Entry i.id ∷ Exit i.id ∷ []) is) ≡ length (ids_of is) + length (ids_of is)
instr-points [] = refl
instr-points (i ∷ is) = omega (arith, instr-points is)

points-long : (bs : List Block) → length (flat_map block_points bs) ≡ length bs + (length (all_ids bs) + length (all_ids bs))
points-long [] = refl
points-long (b ∷ bs) = omega (arith, length-both (block_points b) (flat_map block_points bs), instr-points b.instrs, length-both (ids_of b.instrs) (all_ids bs), points-long bs)

pub few-points : (bs : List Block) (n : ℕ) → IsFunction bs n → n < 4294967296 → length bs < 4294967296 → length (flat_map block_points bs) < 18446744073709551616
few-points bs n f small few = omega (arith, few-ids bs n f, points-long bs, small, few)
