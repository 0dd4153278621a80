-- Elements of lists that are made of others, or that pass a test.
use Rattle.std.proofs.Common.{◌≡◌, ◌⊎◌, inl, inr, Bool, true, false, cond, ◌||◌, List, [], ◌∷◌, map, None, Some, reverse, refl, sym, ap, ◌∙◌, subst}
use Rattle.std.specs.Prelude.{find}
use mathlib.Core.List.{reverse_aux}
use Rattle.std.specs.List.{list_any, flat_map}
use Rattle.mir_meaning.specs.Paths.{Among, here, there}
use Rattle.live_lanes.proofs.Basics.{none-among}
use Rattle.live_lanes.proofs.Numbered.{among-cases, among-left, among-right, among-split}

pub among-flat : {X Y : Type 0} (f : X → List Y) (y : Y) (xs : List X) → Among y (flat_map f xs) → (x : X) × Among x xs × Among y (f x)
among-flat f y [] m = absurd (none-among y m)
among-flat {X = X} f y (x ∷ xs) m = go (among-split y (f x) (flat_map f xs) m) (λ a. among-flat f y xs a)
  where
    go : Among y (f x) ⊎ Among y (flat_map f xs) → (Among y (flat_map f xs) → (z : X) × Among z xs × Among y (f z)) → (z : X) × Among z (x ∷ xs) × Among y (f z)
    go (inl a) ih = (x, here, a)
    go (inr a) ih = let r = ih a in (r.0, there r.1, r.2)

pub flat-among : {X Y : Type 0} (f : X → List Y) (y : Y) (x : X) (xs : List X) → Among x xs → Among y (f x) → Among y (flat_map f xs)
flat-among f y x [] m a = absurd (none-among x m)
flat-among f y x (z ∷ xs) here a = among-left y (f z) (flat_map f xs) a
flat-among f y x (z ∷ xs) (there m) a = among-right y (f z) (flat_map f xs) (flat-among f y x xs m a)

pub among-map : {X Y : Type 0} (g : X → Y) (y : Y) (xs : List X) → Among y (map g xs) → (x : X) × Among x xs × (y ≡ g x)
among-map g y [] m = absurd (none-among y m)
among-map {X = X} g y (x ∷ xs) m = go (among-cases y (g x) (map g xs) m) (λ a. among-map g y xs a)
  where
    go : (y ≡ g x) ⊎ Among y (map g xs) → (Among y (map g xs) → (z : X) × Among z xs × (y ≡ g z)) → (z : X) × Among z (x ∷ xs) × (y ≡ g z)
    go (inl e) ih = (x, here, e)
    go (inr a) ih = let r = ih a in (r.0, there r.1, r.2)

pub map-among : {X Y : Type 0} (g : X → Y) (x : X) (xs : List X) → Among x xs → Among (g x) (map g xs)
map-among g x [] m = absurd (none-among x m)
map-among g x (z ∷ xs) here = here
map-among g x (z ∷ xs) (there m) = there (map-among g x xs m)

pub any-among : {X : Type 0} (p : X → Bool) (xs : List X) → list_any p xs ≡ true → (x : X) × Among x xs × (p x ≡ true)
any-among p [] e = absurd (cc)
any-among {X = X} p (x ∷ xs) e = go (p x) refl e (λ f. any-among p xs f)
  where
    go : (b : Bool) → p x ≡ b → (b || list_any p xs) ≡ true → (list_any p xs ≡ true → (z : X) × Among z xs × (p z ≡ true)) → (z : X) × Among z (x ∷ xs) × (p z ≡ true)
    go true f g ih = (x, here, f)
    go false f g ih = let r = ih g in (r.0, there r.1, r.2)

pub among-any : {X : Type 0} (p : X → Bool) (x : X) (xs : List X) → Among x xs → p x ≡ true → list_any p xs ≡ true
among-any p x [] m e = absurd (none-among x m)
among-any p x (z ∷ xs) here e = ap (λ b. b || list_any p xs) e
among-any p x (z ∷ xs) (there m) e = go (p z) (among-any p x xs m e)
  where
    go : (b : Bool) → list_any p xs ≡ true → (b || list_any p xs) ≡ true
    go true f = refl
    go false f = f

pub find-some : {X : Type 0} (p : X → Bool) (x : X) (xs : List X) → find p xs ≡ Some x → Among x xs × (p x ≡ true)
find-some p x [] e = absurd (cc)
find-some p x (z ∷ xs) e = go (p z) refl e (λ f. find-some p x xs f)
  where
    go : (b : Bool) → p z ≡ b → cond b (Some z) (find p xs) ≡ Some x → (find p xs ≡ Some x → Among x xs × (p x ≡ true)) → Among x (z ∷ xs) × (p x ≡ true)
    go true f g ih = let same : z ≡ x = cc in (subst (λ t. Among t (z ∷ xs)) same here, ap p (sym same) ∙ f)
    go false f g ih = let r = ih g in (there r.0, r.1)

pub find-none : {X : Type 0} (p : X → Bool) (x : X) (xs : List X) → find p xs ≡ None → Among x xs → p x ≡ false
find-none p x [] e m = absurd (none-among x m)
find-none p x (z ∷ xs) e m = go (p z) refl e (among-cases x z xs m) (λ f a. find-none p x xs f a)
  where
    go : (b : Bool) → p z ≡ b → cond b (Some z) (find p xs) ≡ None → (x ≡ z) ⊎ Among x xs → (find p xs ≡ None → Among x xs → p x ≡ false) → p x ≡ false
    go true f g m ih = absurd (cc)
    go false f g (inl same) ih = ap p same ∙ f
    go false f g (inr a) ih = ih g a

-- the other way round

reversed-among : {X : Type 0} (x : X) (xs ys : List X) → Among x xs ⊎ Among x ys → Among x (reverse_aux xs ys)
reversed-among x [] ys (inl a) = absurd (none-among x a)
reversed-among x [] ys (inr b) = b
reversed-among x (z ∷ xs) ys (inl a) = go (among-cases x z xs a) (λ m. reversed-among x xs (z ∷ ys) m)
  where
    go : (x ≡ z) ⊎ Among x xs → (Among x xs ⊎ Among x (z ∷ ys) → Among x (reverse_aux xs (z ∷ ys))) → Among x (reverse_aux xs (z ∷ ys))
    go (inl e) ih = ih (inr (subst (λ t. Among x (t ∷ ys)) e here))
    go (inr c) ih = ih (inl c)
reversed-among x (z ∷ xs) ys (inr b) = reversed-among x xs (z ∷ ys) (inr (there b))

pub reverse-among : {X : Type 0} (x : X) (xs : List X) → Among x xs → Among x (reverse xs)
reverse-among x xs a = reversed-among x xs [] (inl a)

among-reversed : {X : Type 0} (x : X) (xs ys : List X) → Among x (reverse_aux xs ys) → Among x xs ⊎ Among x ys
among-reversed x [] ys a = inr a
among-reversed x (z ∷ xs) ys a = go (among-reversed x xs (z ∷ ys) a)
  where
    last : (x ≡ z) ⊎ Among x ys → Among x (z ∷ xs) ⊎ Among x ys
    last (inl e) = inl (subst (λ t. Among x (t ∷ xs)) e here)
    last (inr b) = inr b

    go : Among x xs ⊎ Among x (z ∷ ys) → Among x (z ∷ xs) ⊎ Among x ys
    go (inl b) = inl (there b)
    go (inr b) = last (among-cases x z ys b)

pub among-reverse : {X : Type 0} (x : X) (xs : List X) → Among x (reverse xs) → Among x xs
among-reverse x xs a = go (among-reversed x xs [] a)
  where
    go : Among x xs ⊎ Among x [] → Among x xs
    go (inl b) = b
    go (inr b) = absurd (none-among x b)
