-- Tests, filters and counts of a list whose elements were changed.
use Rattle.std.proofs.Common.{◌≡◌, ◌∷◌, ◌++◌, ◌∙◌, ◌&&◌, ◌||◌, ◌+◌, ℕ, suc, Bool, true, false, cond, List, [], map, filter, length, refl, sym, ap}
use Rattle.std.specs.Prelude.{count_by}
use Rattle.std.specs.List.{list_all, list_any}
use Rattle.std.proofs.lemmas.List.Sums.{sum_by-cons}
use Rattle.mir_func.specs.Binding.{numbered}

pub map-map : {A B C : Type 0} (g : B → C) (h : A → B) (xs : List A) → map g (map h xs) ≡ map (λ x. g (h x)) xs
map-map g h [] = refl
map-map g h (x ∷ xs) = ap (λ ys. g (h x) ∷ ys) (map-map g h xs)

pub length-map : {A B : Type 0} (h : A → B) (xs : List A) → length (map h xs) ≡ length xs
length-map h [] = refl
length-map h (x ∷ xs) = ap suc (length-map h xs)

pub map-append : {A B : Type 0} (h : A → B) (xs ys : List A) → map h (xs ++ ys) ≡ map h xs ++ map h ys
map-append h [] ys = refl
map-append h (x ∷ xs) ys = ap (λ zs. h x ∷ zs) (map-append h xs ys)

-- a chosen list
pub map-cond : {A B : Type 0} (h : A → B) (b : Bool) (xs : List A) → cond b (map h xs) [] ≡ map h (cond b xs [])
map-cond h true xs = refl
map-cond h false xs = refl

-- tests that say of a changed element what others say of the element

pub any-map : {A B : Type 0} (p : B → Bool) (q : A → Bool) (h : A → B) → ((x : A) → p (h x) ≡ q x) → (xs : List A) → list_any p (map h xs) ≡ list_any q xs
any-map p q h e [] = refl
any-map p q h e (x ∷ xs) = λ k. e x k || any-map p q h e xs k

pub all-map : {A B : Type 0} (p : B → Bool) (q : A → Bool) (h : A → B) → ((x : A) → p (h x) ≡ q x) → (xs : List A) → list_all p (map h xs) ≡ list_all q xs
all-map p q h e [] = refl
all-map p q h e (x ∷ xs) = λ k. e x k && all-map p q h e xs k

kept-by : {A B : Type 0} (h : A → B) (b : Bool) (x : A) (xs : List A) → cond b (h x ∷ map h xs) (map h xs) ≡ map h (cond b (x ∷ xs) xs)
kept-by h true x xs = refl
kept-by h false x xs = refl

pub filter-map : {A B : Type 0} (p : B → Bool) (q : A → Bool) (h : A → B) → ((x : A) → p (h x) ≡ q x) → (xs : List A) → filter p (map h xs) ≡ map h (filter q xs)
filter-map p q h e [] = refl
filter-map p q h e (x ∷ xs) = (λ k. cond (e x k) (h x ∷ filter-map p q h e xs k) (filter-map p q h e xs k)) ∙ kept-by h (q x) x (filter q xs)

pub count-map : {A B : Type 0} (p : B → Bool) (q : A → Bool) (h : A → B) → ((x : A) → p (h x) ≡ q x) → (xs : List A) → count_by p (map h xs) ≡ count_by q xs
count-map p q h e [] = refl
count-map p q h e (x ∷ xs) =
    sum_by-cons (λ y. cond (p y) 1 0) (h x) (map h xs)
    ∙ ((λ k. cond (e x k) 1 0 + count-map p q h e xs k) ∙ sym (sum_by-cons (λ y. cond (q y) 1 0) x xs))

pub numbered-map : {A B : Type 0} (h : A → B) (n : ℕ) (xs : List A) → numbered n (map h xs) ≡ map (λ p. (p.0, h p.1)) (numbered n xs)
numbered-map h n [] = refl
numbered-map h n (x ∷ xs) = ap (λ ys. (n, h x) ∷ ys) (numbered-map h (suc n) xs)
