-- Members of lists.
use Rattle.std.proofs.Common.{◌≡◌, ◌⊎◌, Bool, true, false, cond, List, [], ◌∷◌, ◌++◌, map, filter, flat_map, refl, ap, ◌∙◌, subst, inl, inr}
use Rattle.meaning.specs.Live.{Among as Member, here as first, there as later}

pub member-none : {A : Type 0} (x : A) → Member x [] → ⊥
member-none x m = elim m [ ]

pub member-cases : {A : Type 0} (x y : A) (ys : List A) → Member x (y ∷ ys) → (x ≡ y) ⊎ Member x ys
member-cases x y ys first = inl refl
member-cases x y ys (later m) = inr m

-- by what holds of a first one, and what follows for the others
pub member-elim : {A : Type 0} {P : Type 0} (x y : A) (ys : List A) → (x ≡ y → P) → (Member x ys → P) → Member x (y ∷ ys) → P
member-elim {A = A} {P = P} x y ys f g m = go (member-cases x y ys m)
  where
    go : (x ≡ y) ⊎ Member x ys → P
    go (inl e) = f e
    go (inr k) = g k

pub left-in : {A : Type 0} (x : A) (xs ys : List A) → Member x xs → Member x (xs ++ ys)
left-in x [] ys m = absurd (member-none x m)
left-in x (y ∷ xs) ys m = member-elim x y xs (λ e. subst (λ z. Member x (z ∷ (xs ++ ys))) e first) (λ k. later (left-in x xs ys k)) m

pub right-in : {A : Type 0} (x : A) (xs ys : List A) → Member x ys → Member x (xs ++ ys)
right-in x [] ys m = m
right-in x (y ∷ xs) ys m = later (right-in x xs ys m)

sum-later : {A : Type 0} (x y : A) (xs ys : List A) → Member x xs ⊎ Member x ys → Member x (y ∷ xs) ⊎ Member x ys
sum-later x y xs ys (inl k) = inl (later k)
sum-later x y xs ys (inr k) = inr k

pub in-either : {A : Type 0} (x : A) (xs ys : List A) → Member x (xs ++ ys) → Member x xs ⊎ Member x ys
in-either x [] ys m = inr m
in-either x (y ∷ xs) ys m = member-elim x y (xs ++ ys) (λ e. inl (subst (λ z. Member x (z ∷ xs)) e first)) (λ k. sum-later x y xs ys (in-either x xs ys k)) m

-- in one of two lists
pub either-elim : {A : Type 0} {P : Type 0} (x : A) (xs ys : List A) → (Member x xs → P) → (Member x ys → P) → Member x (xs ++ ys) → P
either-elim {A = A} {P = P} x xs ys f g m = go (in-either x xs ys m)
  where
    go : Member x xs ⊎ Member x ys → P
    go (inl k) = f k
    go (inr k) = g k

pub flat-of : {A B : Type 0} (g : A → List B) (y : B) (xs : List A) → Member y (flat_map g xs) → (x : A) × Member x xs × Member y (g x)
flat-of g y [] m = absurd (member-none y m)
flat-of g y (x ∷ xs) m = either-elim y (g x) (flat_map g xs) (λ k. (x, first, k)) (λ k. let z = flat-of g y xs k in (z.0, later z.1, z.2)) m

pub flat-in : {A B : Type 0} (g : A → List B) (y : B) (x : A) (xs : List A) → Member x xs → Member y (g x) → Member y (flat_map g xs)
flat-in g y x [] m k = absurd (member-none x m)
flat-in g y x (z ∷ xs) m k = member-elim x z xs (λ e. left-in y (g z) (flat_map g xs) (subst (λ w. Member y (g w)) e k)) (λ j. right-in y (g z) (flat_map g xs) (flat-in g y x xs j k)) m

pub filter-of : {A : Type 0} (p : A → Bool) (x : A) (xs : List A) → Member x (filter p xs) → Member x xs × (p x ≡ true)
filter-of p x [] m = absurd (member-none x m)
filter-of p x (y ∷ xs) m = go (p y) refl m (λ k. let z = filter-of p x xs k in (later z.0, z.1))
  where
    go : (b : Bool) → p y ≡ b → Member x (cond b (y ∷ filter p xs) (filter p xs)) → (Member x (filter p xs) → Member x (y ∷ xs) × (p x ≡ true)) → Member x (y ∷ xs) × (p x ≡ true)
    go true e k ih = member-elim x y (filter p xs) (λ f. (subst (λ z. Member x (z ∷ xs)) f first, ap p f ∙ e)) ih k
    go false e k ih = ih k

pub filter-in : {A : Type 0} (p : A → Bool) (x : A) (xs : List A) → Member x xs → p x ≡ true → Member x (filter p xs)
filter-in p x [] m e = absurd (member-none x m)
filter-in p x (y ∷ xs) m e = go (p y) refl (member-cases x y xs m) (λ k. filter-in p x xs k e)
  where
    go : (b : Bool) → p y ≡ b → (x ≡ y) ⊎ Member x xs → (Member x xs → Member x (filter p xs)) → Member x (cond b (y ∷ filter p xs) (filter p xs))
    go true f (inl g) ih = subst (λ z. Member x (z ∷ filter p xs)) g first
    go true f (inr k) ih = later (ih k)
    go false f (inl g) ih = absurd (let h = ap p g in cc)
    go false f (inr k) ih = ih k

pub map-of : {A B : Type 0} (g : A → B) (y : B) (xs : List A) → Member y (map g xs) → (x : A) × Member x xs × (y ≡ g x)
map-of g y [] m = absurd (member-none y m)
map-of g y (x ∷ xs) m = member-elim y (g x) (map g xs) (λ e. (x, first, e)) (λ k. let z = map-of g y xs k in (z.0, later z.1, z.2)) m

pub map-in : {A B : Type 0} (g : A → B) (x : A) (xs : List A) → Member x xs → Member (g x) (map g xs)
map-in g x [] m = absurd (member-none x m)
map-in g x (y ∷ xs) m = member-elim x y xs (λ e. subst (λ z. Member (g x) (g z ∷ map g xs)) e first) (λ k. later (map-in g x xs k)) m
