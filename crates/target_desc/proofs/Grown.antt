-- Tests on lists that grow.
use Rattle.std.proofs.Common.{◌≡◌, ℕ, ◌<◌, ◌≤◌, List, [], ◌∷◌, ◌++◌, length, take, Bool, true, false, refl, ap, sym, ◌∙◌, arith, suc, zero, not}
use Rattle.std.specs.Prelude.{◌&&◌, ◌||◌, ◌==◌, nat_lt, slice_get}
use Rattle.std.specs.List.{list_all, list_any}
use Rattle.std.proofs.lemmas.Bool.{lt-ltb, ltb-true, eqb-true, eqb-false, eq-eqb, ne_eqb, not-true}
use Rattle.target_base.specs.Storage.{same_numbers}
use Rattle.target_base.specs.Names.{are_distinct_names}
use Rattle.target_base.proofs.Tests.{first_of_both, second_of_both}

pub both : (a b : Bool) → a ≡ true → b ≡ true → (a && b) ≡ true
both true b h g = g
both false b h g = h

-- where each element that passes one test passes another
pub all_kept : {X : Type 0} (p q : X → Bool) (xs : List X) → ((x : X) → p x ≡ true → q x ≡ true) → list_all p xs ≡ true → list_all q xs ≡ true
all_kept p q [] f h = refl
all_kept p q (x ∷ xs) f h = both _ _ (f x (first_of_both _ _ h)) (all_kept p q xs f (second_of_both _ _ h))

-- the same, of elements that pass a third test
pub all_kept_where : {X : Type 0} (k p q : X → Bool) (xs : List X) → ((x : X) → k x ≡ true → p x ≡ true → q x ≡ true) → list_all k xs ≡ true → list_all p xs ≡ true → list_all q xs ≡ true
all_kept_where k p q [] f g h = refl
all_kept_where k p q (x ∷ xs) f g h = both _ _ (f x (first_of_both _ _ g) (first_of_both _ _ h)) (all_kept_where k p q xs f (second_of_both _ _ g) (second_of_both _ _ h))

pub all_join : {X : Type 0} (p : X → Bool) (xs ys : List X) → list_all p xs ≡ true → list_all p ys ≡ true → list_all p (xs ++ ys) ≡ true
all_join p [] ys h g = g
all_join p (x ∷ xs) ys h g = both _ _ (first_of_both _ _ h) (all_join p xs ys (second_of_both _ _ h) g)

pub all_push : {X : Type 0} (p : X → Bool) (xs : List X) (y : X) → list_all p xs ≡ true → p y ≡ true → list_all p (xs ++ y ∷ []) ≡ true
all_push p xs y h e = all_join p xs (y ∷ []) h (both _ _ e refl)

pub all_take : {X : Type 0} (p : X → Bool) (n : ℕ) (xs : List X) → list_all p xs ≡ true → list_all p (take n xs) ≡ true
all_take p zero xs h = refl
all_take p (suc n) [] h = refl
all_take p (suc n) (x ∷ xs) h = both _ _ (first_of_both _ _ h) (all_take p n xs (second_of_both _ _ h))

pub get_kept : {X : Type 0} (xs ys : List X) (k : ℕ) → k < length xs → slice_get (xs ++ ys) k ≡ slice_get xs k
get_kept [] ys k h = absurd (omega arith)
get_kept (x ∷ xs) ys zero h = refl
get_kept (x ∷ xs) ys (suc k) h = get_kept xs ys k (omega arith)

pub below_more : (n m k : ℕ) → n ≤ m → nat_lt k n ≡ true → nat_lt k m ≡ true
below_more n m k h e = let a = ltb-true k n e in lt-ltb k m (omega arith)

pub eq_sym : (x y : ℕ) → (x == y) ≡ (y == x)
eq_sym x y = by (x == y) refl
  where
    by : (b : Bool) → (x == y) ≡ b → (x == y) ≡ (y == x)
    by true e = e ∙ sym (eq-eqb y x (sym (eqb-true x y e)))
    by false e = e ∙ sym (ne_eqb y x (λ g. eqb-false x y e (sym g)))

pub same_sym : (xs ys : List ℕ) → same_numbers xs ys ≡ same_numbers ys xs
same_sym [] [] = refl
same_sym [] (y ∷ ys) = refl
same_sym (x ∷ xs) [] = refl
same_sym (x ∷ xs) (y ∷ ys) = λ i. eq_sym x y i && same_sym xs ys i

pub neither : (a b : Bool) → (a || b) ≡ false → (a ≡ false) × (b ≡ false)
neither true b h = absurd (cc)
neither false b h = (refl, h)

none_push : {X : Type 0} (p : X → Bool) (xs : List X) (y : X) → list_any p xs ≡ false → p y ≡ false → list_any p (xs ++ y ∷ []) ≡ false
none_push p [] y h e = rw e refl
none_push p (x ∷ xs) y h e = let n = neither (p x) (list_any p xs) h in rw n.0 (none_push p xs y n.1 e)

-- a new name behind distinct ones
pub distinct_push : (names : List (List ℕ)) (w : List ℕ) → are_distinct_names names ≡ true → not (list_any (same_numbers w) names) ≡ true → are_distinct_names (names ++ w ∷ []) ≡ true
distinct_push [] w h e = refl
distinct_push (x ∷ xs) w h e =
    let n = neither (same_numbers w x) (list_any (same_numbers w) xs) (not-true _ e) in
    let apart = not-true _ (first_of_both _ _ h) in
    both _ _ (ap not (none_push (same_numbers x) xs w apart (same_sym x w ∙ n.0))) (distinct_push xs w (second_of_both _ _ h) (ap not n.1))

-- a name that others follow isn't among those before it
pub apart_before : (names : List (List ℕ)) (w : List ℕ) (more : List (List ℕ)) → are_distinct_names (names ++ w ∷ more) ≡ true → list_any (same_numbers w) names ≡ false
apart_before [] w more h = refl
apart_before (v ∷ names) w more h =
    let here = middle names (not-true _ (first_of_both _ _ h)) in
    let first : same_numbers w v ≡ false = same_sym w v ∙ here in
    rw first (apart_before names w more (second_of_both _ _ h))
  where
    middle : (vs : List (List ℕ)) → list_any (same_numbers v) (vs ++ w ∷ more) ≡ false → same_numbers v w ≡ false
    middle [] e = (neither _ _ e).0
    middle (x ∷ xs) e = middle xs ((neither _ _ e).1)

pub two : (a b r : Bool) → a ≡ true → r ≡ b → r ≡ (a && b)
two a b r h e = rw h e

pub four : (a b c d r : Bool) → a ≡ true → b ≡ true → c ≡ true → r ≡ d → r ≡ (a && b && c && d)
four a b c d r h g k e = rw (h, g, k) e
