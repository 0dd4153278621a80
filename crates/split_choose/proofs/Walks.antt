-- Walks along lists.
use Rattle.std.proofs.Common.{◌≡◌, ◌∙◌, ℕ, zero, suc, ◌+◌, ◌<◌, ◌≤◌, List, [], ◌∷◌, ◌++◌, Bool, true, false, arith, refl, sym, ap, length, take, get_or, map}
use Rattle.std.specs.Prelude.{filter, ◌||◌}
use Rattle.std.specs.List.{list_any, list_all}
use Rattle.std.proofs.lemmas.Bool.{or_from, or_left, or_right, and_parts}
use Rattle.std.proofs.lemmas.List.Folds.{list_any-append}
use Rattle.std.proofs.lemmas.List.{take_more, take_all, map-append}
use Rattle.std.proofs.lemmas.List.Elements.{filter-append}

-- what passes a test, element by element

pub filter_next : {X : Type 0} (f : X → Bool) (xs made : List X) (k : ℕ) (x : X) → k < length xs → x ≡ get_or xs k x → made ≡ filter f (take k xs) → made ++ filter f (x ∷ []) ≡ filter f (take (k + 1) xs)
filter_next f xs made k x h at was = rw (take_more xs k x h, ← at, filter-append f (take k xs) (x ∷ []), was) refl

pub filter_all : {X : Type 0} (f : X → Bool) (xs made : List X) (k : ℕ) → length xs ≤ k → made ≡ filter f (take k xs) → made ≡ filter f xs
filter_all f xs made k h was = was ∙ ap (filter f) (take_all k xs h)

pub ruleset filters = (filter_next, filter_all)

-- a test of any, element by element

pub any_push : {X : Type 0} (f : X → Bool) (xs : List X) (k : ℕ) (x : X) → k < length xs → x ≡ get_or xs k x → list_any f (take (k + 1) xs) ≡ (list_any f (take k xs) || (f x || false))
any_push f xs k x h at = ap (list_any f) (take_more xs k x h ∙ ap (λ y. take k xs ++ y ∷ []) (sym at)) ∙ list_any-append f (take k xs) (x ∷ [])

pub any_next : {X : Type 0} (f : X → Bool) (xs : List X) (k : ℕ) (x : X) (b : Bool) → k < length xs → x ≡ get_or xs k x → b ≡ f x → b ≡ false → list_any f (take k xs) ≡ false → list_any f (take (k + 1) xs) ≡ false
any_next f xs k x b h at is fails was = any_push f xs k x h at ∙ or_from _ _ was (or_from _ _ (sym is ∙ fails) refl)

pub any_found : {X : Type 0} (f : X → Bool) (xs : List X) (k : ℕ) (x : X) (b : Bool) → k < length xs → x ≡ get_or xs k x → b ≡ f x → b ≡ true → true ≡ list_any f xs
any_found f [] k x b h at is holds = absurd (omega arith)
any_found f (y ∷ ys) zero x b h at is holds = sym (or_left (f y) (list_any f ys) (ap f (sym at) ∙ (sym is ∙ holds)))
any_found f (y ∷ ys) (suc k) x b h at is holds = sym (or_right (f y) (list_any f ys) (sym (any_found f ys k x b (omega arith) at is holds)))

pub any_none : {X : Type 0} (f : X → Bool) (xs : List X) (k : ℕ) → length xs ≤ k → list_any f (take k xs) ≡ false → false ≡ list_any f xs
any_none f xs k h was = sym was ∙ ap (list_any f) (take_all k xs h)

pub all_at : {X : Type 0} (f : X → Bool) (xs : List X) (k : ℕ) (x : X) → list_all f xs ≡ true → k < length xs → x ≡ get_or xs k x → f x ≡ true
all_at f [] k x all h at = absurd (omega arith)
all_at f (y ∷ ys) zero x all h at = ap f at ∙ (and_parts _ _ all).0
all_at f (y ∷ ys) (suc k) x all h at = all_at f ys k x (and_parts _ _ all).1 (omega arith) at

pub ruleset anys = (any_next, any_found, any_none)

-- the image of an element

pub mapped-at : {X Y : Type 0} (g : X → Y) (xs : List X) (k : ℕ) (x : X) (d : Y) → k < length xs → x ≡ get_or xs k x → get_or (map g xs) k d ≡ g x
mapped-at g [] k x d h at = absurd (omega arith)
mapped-at g (y ∷ ys) zero x d h at = ap g (sym at)
mapped-at g (y ∷ ys) (suc k) x d h at = mapped-at g ys k x d (omega arith) at

pub map_next : {X Y : Type 0} (g : X → Y) (xs : List X) (k : ℕ) (x : X) → k < length xs → x ≡ get_or xs k x → map g (take k xs) ++ g x ∷ [] ≡ map g (take (k + 1) xs)
map_next g xs k x h at = sym (map-append g (take k xs) (x ∷ [])) ∙ ap (map g) (sym (take_more xs k x h ∙ ap (λ y. take k xs ++ y ∷ []) (sym at)))

pub map_all : {X Y : Type 0} (g : X → Y) (xs : List X) (k : ℕ) → length xs ≤ k → map g (take k xs) ≡ map g xs
map_all g xs k h = ap (map g) (take_all k xs h)
