-- Numbers by their digits.
use Rattle.std.proofs.Common.{◌≡◌, ℕ, ◌<◌, ◌≤◌, ◌+◌, ◌*◌, ◌-◌, ◌^◌, List, length, drop, get_or, true, false, Bool, refl, sym, ◌∙◌, ap, arith, rules, slice_index_or}
use Rattle.std.specs.Prelude.{IsTrue}
use Rattle.std.specs.List.{list_all}
use Rattle.std.proofs.Math.Nat.{pow-succ'}
use Rattle.std.proofs.lemmas.List.{at_drop_more, at_drop_all}
use Rattle.std.proofs.lemmas.List.Folds.{list_all_at}
use Rattle.ra_top.specs.Words.Words.{number_behind, is_digit, is_number}

-- one more digit is read
pub read_one : (digits : List ℕ) (k n all : ℕ) → k < length digits → number_behind n (drop k digits) ≡ all → number_behind (n * 10 + (slice_index_or digits k 0 - 48)) (drop (k + 1) digits) ≡ all
unfolding number_behind
read_one digits k n all below e = sym (at_drop_more (λ xs. number_behind n xs) digits k 0 below) ∙ e

-- none is left
pub read_all : (digits : List ℕ) (k n all : ℕ) → length digits ≤ k → number_behind n (drop k digits) ≡ all → n ≡ all
unfolding number_behind
read_all digits k n all over e = sym (at_drop_all (λ xs. number_behind n xs) digits k over) ∙ e

at_most : (b : ℕ) → is_digit b ≡ true → b - 48 ≤ 9
at_most b e = search rules

is_at : (digits : List ℕ) (k : ℕ) (b : Bool) → k < length digits → is_digit (get_or digits k 0) ≡ b → list_all is_digit digits ≡ true → b ≡ true
is_at digits k true below at all = refl
is_at digits k false below at all = sym (list_all_at is_digit digits k 0 below at) ∙ all

all_digits : (word : List ℕ) → IsTrue (is_number word) → list_all is_digit word ≡ true
all_digits word e = search rules

-- each digit is at most 9
pub digit_at : (digits : List ℕ) (k : ℕ) → k < length digits → IsTrue (is_number digits) → get_or digits k 0 - 48 ≤ 9
digit_at digits k below e = at_most (get_or digits k 0) (is_at digits k (is_digit (get_or digits k 0)) below refl (all_digits digits e))

pub below_power : (n p k d : ℕ) → n < p → d ≤ 9 → 10 ^ (k + 1) ≡ 10 * p → n * 10 + d < 10 ^ (k + 1)
below_power n p k d below small e = omega (arith, e)

pub power : (k : ℕ) → 10 ^ (k + 1) ≡ 10 * 10 ^ k
power k = ap (λ m. 10 ^ m) (omega arith) ∙ pow-succ' 10 k
