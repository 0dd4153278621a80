-- Names that are looked up in a set that keeps them as vectors.
use Rattle.std.proofs.Common.{◌≡◌, ℕ, ◌+◌, List, [], ◌∷◌, ◌++◌, Some, None, Bool, true, false, refl, ap, sym, ◌∙◌, cond, ltb, map, not}
use Rattle.std.specs.Prelude.{◌&&◌, ◌||◌, nat_eq, position, ◌==◌}
use Rattle.std.specs.List.{list_any, flat_map, position_or_len}
use Rattle.std.specs.Cmp.Lexicographic.{pointwise}
use Rattle.std.proofs.lemmas.List.{length-map, map_push}
use Rattle.std.proofs.lemmas.List.Folds.{list_any-append}
use Rattle.target_base.specs.Storage.{same_numbers}
use Rattle.word_set.specs.Words.{with_name}

pub pointwise_same : (xs ys : List ℕ) → pointwise nat_eq xs ys ≡ same_numbers xs ys
pointwise_same [] [] = refl
pointwise_same [] (y ∷ ys) = refl
pointwise_same (x ∷ xs) [] = refl
pointwise_same (x ∷ xs) (y ∷ ys) = ap (λ b. (x == y) && b) (pointwise_same xs ys)

place_map : {X : Type 0} (p q : X → Bool) (xs : List X) → ((x : X) → p x ≡ q x) → position_or_len p xs ≡ position_or_len q xs
place_map p q [] h = refl
place_map p q (x ∷ xs) h = λ i. cond (not (h x i)) (1 + place_map p q xs h i) 0

any_same : {X : Type 0} (p q : X → Bool) (xs : List X) → ((x : X) → p x ≡ q x) → list_any p xs ≡ list_any q xs
any_same p q [] h = refl
any_same p q (x ∷ xs) h = λ i. h x i || any_same p q xs h i

place_of_map : {X Y : Type 0} (f : X → Y) (p : Y → Bool) (xs : List X) → position_or_len (λ x. p (f x)) xs ≡ position_or_len p (map f xs)
place_of_map f p [] = refl
place_of_map f p (x ∷ xs) = ap (λ n. cond (not (p (f x))) (1 + n) 0) (place_of_map f p xs)

pub any_of_map : {X Y : Type 0} (f : X → Y) (p : Y → Bool) (xs : List X) → list_any (λ x. p (f x)) xs ≡ list_any p (map f xs)
any_of_map f p [] = refl
any_of_map f p (x ∷ xs) = ap (λ b. p (f x) || b) (any_of_map f p xs)

pub any_of_flat : {X Y : Type 0} (f : X → List Y) (p : Y → Bool) (xs : List X) → list_any (λ x. list_any p (f x)) xs ≡ list_any p (flat_map f xs)
any_of_flat f p [] = refl
any_of_flat f p (x ∷ xs) = ap (λ b. list_any p (f x) || b) (any_of_flat f p xs) ∙ sym (list_any-append p (f x) (flat_map f xs))

-- a place among keys is one among their names
pub place_among : {X : Type 0} (xs : List X) (f : X → List ℕ) (name : List ℕ) → position (λ x. pointwise nat_eq name (f x)) xs ≡ position (same_numbers name) (map f xs)
place_among xs f name =
    let n = place_map (λ x. pointwise nat_eq name (f x)) (λ x. same_numbers name (f x)) xs (λ x. pointwise_same name (f x)) ∙ place_of_map f (same_numbers name) xs in
    let l = sym (length-map xs f) in
    λ i. cond (ltb (n i) (l i)) (Some (n i)) None

any_among : {X : Type 0} (xs : List X) (f : X → List ℕ) (name : List ℕ) → list_any (λ x. pointwise nat_eq name (f x)) xs ≡ list_any (same_numbers name) (map f xs)
any_among xs f name = any_same (λ x. pointwise nat_eq name (f x)) (λ x. same_numbers name (f x)) xs (λ x. pointwise_same name (f x)) ∙ any_of_map f (same_numbers name) xs

name_put : {X : Type 0} (xs : List X) (f : X → List ℕ) (v : X) (b : Bool) → map f (cond b xs (xs ++ v ∷ [])) ≡ cond (not b) (map f xs ++ f v ∷ []) (map f xs)
name_put xs f v true = refl
name_put xs f v false = map_push f xs v

-- a key that is put into the set, and its name among the names
pub name_inserted : {X : Type 0} (xs : List X) (f : X → List ℕ) (v : X) (name : List ℕ) → f v ≡ name → map f (cond (list_any (λ x. pointwise nat_eq (f v) (f x)) xs) xs (xs ++ v ∷ [])) ≡ with_name (map f xs) name
name_inserted xs f v name e =
    ap (λ b. map f (cond b xs (xs ++ v ∷ []))) (any_among xs f (f v)) ∙ name_put xs f v (list_any (same_numbers (f v)) (map f xs)) ∙ ap (with_name (map f xs)) e
