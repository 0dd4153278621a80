-- Rounds of frequencies.
use Rattle.std.proofs.Common.{◌≡◌, ℕ, ◌+◌, ◌-◌, ◌^◌, ◌<◌, ◌≤◌, zero, suc, min, Bool, true, false, cond, eqb, List, length, get_or, take, map, arith, refl, sym, ap, ◌∙◌, add-one}
use Rattle.std.specs.List.{All, sum_by, range_with_len}
use Rattle.std.proofs.lemmas.List.Sums.{sum_by_more}
use Rattle.std.proofs.lemmas.List.FromFn.{fill_by_all, length-map-range_with_len, get_or-map-range_with_len}
use Rattle.std.proofs.Math.Nat.{min-le_right}
use Rattle.block_freq.specs.declared.edges.BlockEdge.{BlockEdge}
use Rattle.block_freq.specs.Frequencies.{entry_frequency, share, carried, next_frequency, round, rounds}

carried_more : (cap : ℕ) (t : Bool) (n s x old now : ℕ) → old ≡ min (n + s) cap → now ≡ cond t (min (old + x) cap) old → now ≡ min (n + (s + cond t x 0)) cap
carried_more cap true n s x old now was made = omega arith
carried_more cap false n s x old now was made = omega arith

-- what an edge more carries into a block
pub round_more : (es : List BlockEdge) (fs : List ℕ) (i b old now : ℕ) (e : BlockEdge) → i < length es → e ≡ get_or es i e → old ≡ next_frequency (take i es) fs b → now ≡ cond (eqb e.to b) (min (old + share fs e) (2 ^ 40)) old → now ≡ next_frequency (take (i + 1) es) fs b
round_more es fs i b old now e h is was made =
    let m = sum_by_more (carried fs b) es i e h in
    let n : sum_by (carried fs b) (take (i + 1) es) ≡ sum_by (carried fs b) (take i es) + carried fs b e = rw (← is) at m in
    rw n (carried_more (2 ^ 40) (eqb e.to b) (entry_frequency b) (sum_by (carried fs b) (take i es)) (share fs e) old now was made)

entry_small : (t : Bool) → cond t 16384 0 ≤ 2 ^ 40
entry_small true = omega arith
entry_small false = omega arith

kept : (x cap : ℕ) → x ≤ cap → x ≡ min (x + 0) cap
kept x cap h = omega arith

pub round_none : (fs : List ℕ) (es : List BlockEdge) (b : ℕ) → entry_frequency b ≡ next_frequency (take 0 es) fs b
round_none fs es b = kept (entry_frequency b) (2 ^ 40) (entry_small (eqb b 0))

pub round_is : (es : List BlockEdge) (fs now : List ℕ) → length now ≡ length fs → ((b : ℕ) → b < length now → get_or now b 0 ≡ next_frequency es fs b) → now ≡ round es fs
round_is es fs now l h = fill_by_all (next_frequency es fs) now (length fs) 0 l (λ k below. h k (omega arith))

pub length-round : (es : List BlockEdge) (fs : List ℕ) → length (round es fs) ≡ length fs
length-round es fs = length-map-range_with_len (next_frequency es fs) 0 (length fs)

pub rounds_none : (es : List BlockEdge) (fs : List ℕ) → fs ≡ rounds es 0 fs
unfolding rounds
rounds_none es fs = refl

pub rounds_more : (es : List BlockEdge) (n : ℕ) (fs : List ℕ) → rounds es (n + 1) fs ≡ round es (rounds es n fs)
unfolding rounds
rounds_more es n fs = rw (add-one n) refl

-- what a round leaves as it is stays as it is
pub rounds_stay : (es : List BlockEdge) (k : ℕ) (fs : List ℕ) → round es (rounds es k fs) ≡ rounds es k fs → (n : ℕ) → rounds es (n + k) fs ≡ rounds es k fs
unfolding rounds
rounds_stay es k fs h zero = let e : 0 + k ≡ k = omega arith in rw e refl
rounds_stay es k fs h (suc n) = let e : suc n + k ≡ suc (n + k) = omega arith in rw e (ap (round es) (rounds_stay es k fs h n) ∙ h)

-- and so it is what 64 rounds give
pub rounds_over : (es : List BlockEdge) (k : ℕ) (fs last : List ℕ) → k ≤ 64 → last ≡ rounds es k fs → last ≡ round es last → last ≡ rounds es 64 fs
rounds_over es k fs last h is same =
    let still : round es (rounds es k fs) ≡ rounds es k fs = rw (← is) (sym same) in
    let n : 64 ≡ (64 - k) + k = omega arith in
    is ∙ (sym (rounds_stay es k fs still (64 - k)) ∙ ap (λ m. rounds es m fs) (sym n))

pub length-rounds : (es : List BlockEdge) (n : ℕ) (fs : List ℕ) → length (rounds es n fs) ≡ length fs
unfolding rounds
length-rounds es zero fs = refl
length-rounds es (suc n) fs = length-round es (rounds es n fs) ∙ length-rounds es n fs

pub round_capped : (es : List BlockEdge) (fs : List ℕ) → All (λ x. x ≤ 2 ^ 40) (round es fs)
round_capped es fs k d h =
    let l = length-round es fs in
    rw (get_or-map-range_with_len (next_frequency es fs) 0 (length fs) k k d (omega arith) (omega arith)) (min-le_right _ _)

pub rounds_capped : (es : List BlockEdge) (n : ℕ) (fs : List ℕ) → 0 < n → All (λ x. x ≤ 2 ^ 40) (rounds es n fs)
unfolding rounds
rounds_capped es zero fs h = absurd (omega arith)
rounds_capped es (suc n) fs h = round_capped es (rounds es n fs)

pub ruleset round_steps = (round_more, round_none, round_is, length-round, rounds_none, rounds_more, length-rounds)
