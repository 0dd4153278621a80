-- The cheapest of evictions, one candidate after the other.
use Rattle.std.proofs.Common.{◌≡◌, ◌∙◌, ◌⊎◌, inl, inr, ℕ, zero, suc, ◌+◌, ◌<◌, ◌≤◌, List, [], ◌∷◌, ◌++◌, Bool, true, false, cond, refl, sym, ap, arith, map, length, get_or, take, append-nil}
use Rattle.std.specs.Prelude.{◌&&◌, ◌||◌, ◌==◌, not, nat_lt, filter, find, Option, Some, None, option_map}
use Rattle.std.specs.List.{list_all, filter_map, cons_option}
use Rattle.std.specs.Cmp.{IsStrictWeakOrder}
use Rattle.std.proofs.lemmas.Bool.{cases_lt, cases_order}
use Rattle.std.proofs.lemmas.Bool.Decides.{nat_tests}
use Rattle.std.proofs.lemmas.List.{take_more, take_all}
use Rattle.std.proofs.lemmas.List.Elements.{filter_map-append}
use Rattle.target_base.specs.declared.types.Reg.{Reg}
use Rattle.mir_meaning.specs.Registers.{numbers}
use Rattle.evictor.specs.Best.{better, best_with}
use Rattle.evictor.specs.Cheapest.{Setting, may_lose, clashers, qualifies, cost, is_cheaper, first_cheapest, cheapest_of}
use Rattle.evictor.specs.Settings.{eviction, eviction_at, costs_less, answer_of}
use Rattle.evictor.specs.declared.choice.Eviction.{Eviction}
use Rattle.evictor.proofs.Tops.{top, top_more, find_agree, all_agree}

-- a range in the way that may not be evicted keeps the register

lost_by : (p test : ℕ → Bool) (w : ℕ) → test w ≡ true → p w ≡ false → (a n : ℕ) → a ≤ w → w < a + n → list_all p (filter test (numbers a n)) ≡ false
lost_by p test w passes fails a zero h k = absurd (omega arith)
lost_by p test w passes fails a (suc n) h k = go (cases_order a w) (λ less. lost_by p test w passes fails (suc a) n (omega arith) (omega arith))
  where
    keep : (b : Bool) → list_all p (filter test (numbers (suc a) n)) ≡ false → list_all p (cond b (a ∷ filter test (numbers (suc a) n)) (filter test (numbers (suc a) n))) ≡ false
    keep true rest = ap (λ b. p a && b) rest ∙ none (p a)
      where
        none : (b : Bool) → (b && false) ≡ false
        none true = refl
        none false = refl
    keep false rest = rest

    go : (a ≡ w) ⊎ ((a < w) ⊎ (w < a)) → (a < w → list_all p (filter test (numbers (suc a) n)) ≡ false) → list_all p (filter test (numbers a (suc n))) ≡ false
    go (inl e) rest = ap (λ b. list_all p (cond b (a ∷ filter test (numbers (suc a) n)) (filter test (numbers (suc a) n)))) (ap test e ∙ passes) ∙ ap (λ b. b && list_all p (filter test (numbers (suc a) n))) (ap p e ∙ fails)
    go (inr (inl less)) rest = keep (test a) (rest less)
    go (inr (inr more)) rest = absurd (omega arith)

pub kept_out : (s : Setting) (r : Reg) (w : ℕ) → s.facts.in_the_way r w ≡ true → w < length s.func.classes → may_lose s w ≡ false → qualifies s r ≡ false
kept_out s r w way known keeps = ap (λ b. not (s.facts.fixed r) && b) (lost_by (may_lose s) (s.facts.in_the_way r) w way keeps 0 (length s.func.classes) (omega arith) (omega arith)) ∙ none (not (s.facts.fixed r))
  where
    none : (b : Bool) → (b && false) ≡ false
    none true = refl
    none false = refl

-- evictions in their order

costs_one_way : (c d m n : ℕ) → (nat_lt c d || (c == d && nat_lt m n)) ≡ true → (nat_lt d c || (d == c && nat_lt n m)) ≡ false
costs_one_way c d m n h = grind (arith, nat_tests)

costs_chain : (c d e l m n : ℕ) → (nat_lt c d || (c == d && nat_lt l m)) ≡ false → (nat_lt d e || (d == e && nat_lt m n)) ≡ false → (nat_lt c e || (c == e && nat_lt l n)) ≡ false
costs_chain c d e l m n h k = grind (arith, nat_tests)

costs_order : IsStrictWeakOrder costs_less
costs_order = record {
  one_way = λ a b. costs_one_way a.cost b.cost (length a.victims) (length b.victims);
  chain = λ a b c. costs_chain a.cost b.cost c.cost (length a.victims) (length b.victims) (length c.victims);
}

pub top_with : (q : Option Eviction) (es : List Eviction) → top costs_less (es ++ cons_option q []) ≡ best_with costs_less q (top costs_less es)
top_with None es = ap (top costs_less) (append-nil es)
top_with (Some e) es = top_more costs_less costs_order es e

-- one candidate more
pub best_more : (s : Setting) (rs : List Reg) (k : ℕ) (r : Reg) (q best : Option Eviction) → k < length rs → r ≡ get_or rs k r → q ≡ eviction_at s r → best ≡ top costs_less (filter_map (eviction_at s) (take k rs)) → best_with costs_less q best ≡ top costs_less (filter_map (eviction_at s) (take (k + 1) rs))
best_more s rs k r q best h at is was =
    let split = ap (filter_map (eviction_at s)) (take_more rs k r h ∙ ap (λ (x : Reg). take k rs ++ x ∷ []) (sym at)) ∙ filter_map-append (eviction_at s) (take k rs) (r ∷ []) in
    ap (best_with costs_less q) was ∙ (sym (top_with q (filter_map (eviction_at s) (take k rs))) ∙ (ap (λ (o : Option Eviction). top costs_less (filter_map (eviction_at s) (take k rs) ++ cons_option o [])) is ∙ ap (top costs_less) (sym split)))

-- those that qualify, with what they cost

qualifying : (s : Setting) (rs : List Reg) → filter_map (eviction_at s) rs ≡ map (eviction s) (filter (qualifies s) rs)
qualifying s [] = refl
qualifying s (r ∷ rs) = go (qualifies s r) (qualifying s rs)
  where
    go : (b : Bool) → filter_map (eviction_at s) rs ≡ map (eviction s) (filter (qualifies s) rs) → cons_option (cond b (Some (eviction s r)) None) (filter_map (eviction_at s) rs) ≡ map (eviction s) (cond b (r ∷ filter (qualifies s) rs) (filter (qualifies s) rs))
    go true rest = ap (λ es. eviction s r ∷ es) rest
    go false rest = rest

all_mapped : {X Y : Type 0} (p : Y → Bool) (g : X → Y) (xs : List X) → list_all p (map g xs) ≡ list_all (λ x. p (g x)) xs
all_mapped p g [] = refl
all_mapped p g (x ∷ xs) = ap (λ b. p (g x) && b) (all_mapped p g xs)

find_mapped : {X Y : Type 0} (p : Y → Bool) (g : X → Y) (xs : List X) → find p (map g xs) ≡ option_map g (find (λ x. p (g x)) xs)
find_mapped p g [] = refl
find_mapped p g (x ∷ xs) = go (p (g x)) (find_mapped p g xs)
  where
    go : (b : Bool) → find p (map g xs) ≡ option_map g (find (λ x. p (g x)) xs) → cond b (Some (g x)) (find p (map g xs)) ≡ option_map g (cond b (Some x) (find (λ x. p (g x)) xs))
    go true rest = refl
    go false rest = rest

cheapest_is : (s : Setting) (rs : List Reg) → top costs_less (map (eviction s) rs) ≡ option_map (eviction s) (first_cheapest s rs)
cheapest_is s rs =
    find_mapped (λ x. list_all (λ y. not (costs_less y x)) (map (eviction s) rs)) (eviction s) rs
    ∙ ap (option_map (eviction s)) (find_agree (λ r. list_all (λ y. not (costs_less y (eviction s r))) (map (eviction s) rs)) (λ r. list_all (λ q. not (is_cheaper s q r)) rs) (λ r. all_mapped (λ y. not (costs_less y (eviction s r))) (eviction s) rs) rs)

answered : (s : Setting) (q : Option Reg) → answer_of (option_map (eviction s) q) ≡ option_map (λ r. (r, clashers s r)) q
answered s None = refl
answered s (Some r) = refl

-- all candidates
pub best_all : (s : Setting) (rs : List Reg) (k : ℕ) (best : Option Eviction) → length rs ≤ k → best ≡ top costs_less (filter_map (eviction_at s) (take k rs)) → answer_of best ≡ cheapest_of s rs
unfolding cheapest_of
best_all s rs k best h was =
    ap answer_of (was ∙ (ap (λ (qs : List Reg). top costs_less (filter_map (eviction_at s) qs)) (take_all k rs h) ∙ (ap (top costs_less) (qualifying s rs) ∙ cheapest_is s (filter (qualifies s) rs)))) ∙ answered s (first_cheapest s (filter (qualifies s) rs))
