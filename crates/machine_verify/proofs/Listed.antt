-- Numbers in lists and sets.
use Rattle.std.proofs.Common.{◌≡◌, ◌∙◌, ℕ, zero, suc, ◌+◌, ◌<◌, List, [], ◌∷◌, Bool, true, false, refl, sym, ap, arith, drop, length, get_or}
use Rattle.std.specs.Prelude.{◌&&◌, ◌||◌, ◌++◌, not, nat_eq}
use Rattle.std.specs.List.{list_all, list_any}
use Rattle.std.proofs.lemmas.List.{drop_more}
use Rattle.std.proofs.lemmas.List.Folds.{list_all-append}
use Rattle.target_base.specs.Names.{are_distinct_numbers}
use Rattle.mir_meaning.specs.Registers.{has_number}
use Rattle.machine_verify.specs.Sets.{Holds, has}
use Rattle.machine_verify.specs.declared.numbers.NumberSet.{NumberSet}

pub or_turned : (a b c : Bool) → ((a || b) || c) ≡ (b || (a || c))
or_turned true true c = refl
or_turned true false c = refl
or_turned false true c = refl
or_turned false false c = refl

pub or_false : (a : Bool) → (a || false) ≡ a
or_false true = refl
or_false false = refl

pub not_not : (a : Bool) → not (not a) ≡ a
not_not true = refl
not_not false = refl

-- a list whose end isn't distinct isn't distinct
pub distinct_end : (k : ℕ) (ns : List ℕ) → are_distinct_numbers (drop k ns) ≡ false → are_distinct_numbers ns ≡ false
distinct_end zero ns h = h
distinct_end (suc k) [] h = h
distinct_end (suc k) (n ∷ ns) h = and_false (not (list_any (λ m. nat_eq n m) ns)) (are_distinct_numbers ns) (distinct_end k ns h)
  where
    and_false : (a b : Bool) → b ≡ false → (a && b) ≡ false
    and_false true b e = e
    and_false false b e = refl

-- the same test of each number gives the same answer
pub list_all_alike : {X : Type 0} (p q : X → Bool) → ((x : X) → p x ≡ q x) → (xs : List X) → list_all p xs ≡ list_all q xs
list_all_alike p q h [] = refl
list_all_alike p q h (x ∷ xs) = ap (λ b. b && list_all p xs) (h x) ∙ ap (λ b. q x && b) (list_all_alike p q h xs)

-- numbers of the set are those of the list
pub all_in_set : (s : NumberSet) (ms ns : List ℕ) → Holds s ms → list_all (has s) ns ≡ list_all (has_number ms) ns
all_in_set s ms ns h = list_all_alike (has s) (has_number ms) h ns

pub list_all_joined : {X : Type 0} (p : X → Bool) (xs ys : List X) → list_all p (xs ++ ys) ≡ (list_all p xs && list_all p ys)
list_all_joined p xs ys = list_all-append p xs ys

-- number j stands again behind its place
pub twice : (ns : List ℕ) (j k : ℕ) (later : NumberSet) (is_new : Bool) → k ≡ j + 1 → j < length ns → Holds later (drop k ns) → is_new ≡ not (has later (get_or ns j 0)) → is_new ≡ false → false ≡ are_distinct_numbers ns
twice ns j k later is_new e h g n f =
    let there : has_number (drop (j + 1) ns) (get_or ns j 0) ≡ true = sym (ap (λ i. has_number (drop i ns) (get_or ns j 0)) e) ∙ (sym (g (get_or ns j 0)) ∙ (sym (not_not _) ∙ ap not (sym n ∙ f))) in
    let here : are_distinct_numbers (drop j ns) ≡ false = ap are_distinct_numbers (drop_more ns j 0 h) ∙ ap (λ b. not b && are_distinct_numbers (drop (j + 1) ns)) there in
    sym (distinct_end j ns here)

-- number j doesn't stand behind its place
pub once : (ns : List ℕ) (j k : ℕ) (later : NumberSet) (is_new : Bool) → k ≡ j + 1 → j < length ns → Holds later (drop k ns) → is_new ≡ not (has later (get_or ns j 0)) → is_new ≡ true → are_distinct_numbers (drop k ns) ≡ true → are_distinct_numbers (drop j ns) ≡ true
once ns j k later is_new e h g n f d =
    let absent : has_number (drop (j + 1) ns) (get_or ns j 0) ≡ false = sym (ap (λ i. has_number (drop i ns) (get_or ns j 0)) e) ∙ (sym (g (get_or ns j 0)) ∙ (sym (not_not _) ∙ ap not (sym n ∙ f))) in
    let rest : are_distinct_numbers (drop (j + 1) ns) ≡ true = sym (ap (λ i. are_distinct_numbers (drop i ns)) e) ∙ d in
    ap are_distinct_numbers (drop_more ns j 0 h) ∙ (ap (λ b. not b && are_distinct_numbers (drop (j + 1) ns)) absent ∙ rest)

-- the set with number j holds the numbers from j on
pub holds_from : (ns : List ℕ) (j k : ℕ) (later more : NumberSet) → k ≡ j + 1 → j < length ns → Holds later (drop k ns) → ((q : ℕ) → has more q ≡ (nat_eq q (get_or ns j 0) || has later q)) → Holds more (drop j ns)
holds_from ns j k later more e h g n q =
    n q ∙ (ap (λ b. nat_eq q (get_or ns j 0) || b) (g q ∙ ap (λ i. has_number (drop i ns) q) e) ∙ sym (ap (λ xs. has_number xs q) (drop_more ns j 0 h)))

-- one more number of a list is in the set, and the others are left
pub holds_more : (ns : List ℕ) (i : ℕ) (q n : ℕ) (a b : Bool) → i < length ns → n ≡ get_or ns i 0 → b ≡ (nat_eq q n || a) → (a || has_number (drop i ns) q) ≡ has_number ns q → (b || has_number (drop (i + 1) ns) q) ≡ has_number ns q
holds_more ns i q n a b h e f g =
    ap (λ x. x || has_number (drop (i + 1) ns) q) f
    ∙ (or_turned (nat_eq q n) a (has_number (drop (i + 1) ns) q)
    ∙ (ap (λ m. a || (nat_eq q m || has_number (drop (i + 1) ns) q)) e
    ∙ (sym (ap (λ xs. a || has_number xs q) (drop_more ns i 0 h)) ∙ g)))
