-- The first of a list that passes a test, element by element.
use Rattle.std.proofs.Common.{◌≡◌, ◌∙◌, ℕ, ◌+◌, ◌<◌, ◌≤◌, List, [], ◌∷◌, Bool, true, false, cond, refl, sym, ap, length, get_or, drop}
use Rattle.std.specs.Prelude.{find, Option, Some, None}
use Rattle.std.proofs.lemmas.List.{drop_more, drop_all}

-- it isn't this one
pub find_next : {X : Type 0} (p : X → Bool) (xs : List X) (k : ℕ) (x : X) (first : Option X) → k < length xs → x ≡ get_or xs k x → p x ≡ false → find p (drop k xs) ≡ first → find p (drop (k + 1) xs) ≡ first
find_next p xs k x first h at fails was =
    let e : find p (drop k xs) ≡ cond (p x) (Some x) (find p (drop (k + 1) xs)) = rw (drop_more xs k x h, ← at) refl in
    sym (ap (λ b. cond b (Some x) (find p (drop (k + 1) xs))) fails) ∙ (sym e ∙ was)

-- it is this one
pub find_here : {X : Type 0} (p : X → Bool) (xs : List X) (k : ℕ) (x : X) (first : Option X) → k < length xs → x ≡ get_or xs k x → p x ≡ true → find p (drop k xs) ≡ first → Some x ≡ first
find_here p xs k x first h at passes was =
    let e : find p (drop k xs) ≡ cond (p x) (Some x) (find p (drop (k + 1) xs)) = rw (drop_more xs k x h, ← at) refl in
    sym (ap (λ b. cond b (Some x) (find p (drop (k + 1) xs))) passes) ∙ (sym e ∙ was)

-- there is none
pub find_none : {X : Type 0} (p : X → Bool) (xs : List X) (k : ℕ) (first : Option X) → length xs ≤ k → find p (drop k xs) ≡ first → None ≡ first
find_none p xs k first h was = sym (ap (find p) (drop_all k xs h)) ∙ was

pub ruleset firsts = (find_next, find_here, find_none)
