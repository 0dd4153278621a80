-- The first element than which none is better, found by a walk that keeps the best one so far.
use Rattle.std.proofs.Common.{◌≡◌, ◌∙◌, List, [], ◌∷◌, ◌++◌, Bool, true, false, cond, refl, sym, ap, append_assoc, append-nil}
use Rattle.std.specs.Prelude.{◌&&◌, not, find, Option, Some, None}
use Rattle.std.specs.List.{list_all}
use Rattle.std.specs.Cmp.{IsStrictWeakOrder}
use Rattle.std.proofs.lemmas.List.Folds.{list_all-append}
use Rattle.evictor.specs.Best.{better}

-- the first than which none is better
abbrev pub top : {X : Type 0} → (X → X → Bool) → List X → Option X
top beats xs = find (λ x. list_all (λ y. not (beats y x)) xs) xs

-- where it stands
abbrev IsTop : {X : Type 0} → (X → X → Bool) → List X → Option X → Type 0
IsTop beats xs None = xs ≡ []
IsTop {X} beats xs (Some x) = (before after : List X) × (xs ≡ before ++ x ∷ after) × (list_all (beats x) before ≡ true) × (list_all (λ y. not (beats y x)) after ≡ true)

pub and_parts : (a b : Bool) → (a && b) ≡ true → (a ≡ true) × (b ≡ true)
and_parts true b h = (refl, h)
and_parts false b h = cc

pub and_true : (a b : Bool) → a ≡ true → b ≡ true → (a && b) ≡ true
and_true a b p q = ap (λ c. c && b) p ∙ q

and_lost : (a b : Bool) → b ≡ false → (a && b) ≡ false
and_lost true b h = h
and_lost false b h = refl

pub not_true : (b : Bool) → not b ≡ true → b ≡ false
not_true true h = cc
not_true false h = refl

all_weaker : {X : Type 0} (p q : X → Bool) → ((x : X) → p x ≡ true → q x ≡ true) → (xs : List X) → list_all p xs ≡ true → list_all q xs ≡ true
all_weaker p q f [] h = refl
all_weaker p q f (x ∷ xs) h = let parts = and_parts (p x) (list_all p xs) h in and_true (q x) (list_all q xs) (f x parts.0) (all_weaker p q f xs parts.1)

pub all_agree : {X : Type 0} (p q : X → Bool) → ((x : X) → p x ≡ q x) → (xs : List X) → list_all p xs ≡ list_all q xs
all_agree p q f [] = refl
all_agree p q f (x ∷ xs) = ap (λ b. b && list_all p xs) (f x) ∙ ap (λ b. q x && b) (all_agree p q f xs)

pub find_agree : {X : Type 0} (p q : X → Bool) → ((x : X) → p x ≡ q x) → (xs : List X) → find p xs ≡ find q xs
find_agree p q f [] = refl
find_agree p q f (x ∷ xs) = ap (λ b. cond b (Some x) (find p xs)) (f x) ∙ ap (cond (q x) (Some x)) (find_agree p q f xs)

found_behind : {X : Type 0} (p : X → Bool) (before : List X) (x : X) (after : List X) → list_all (λ y. not (p y)) before ≡ true → p x ≡ true → find p (before ++ x ∷ after) ≡ Some x
found_behind p [] x after h is = ap (λ b. cond b (Some x) (find p after)) is
found_behind p (y ∷ before) x after h is =
    let parts = and_parts (not (p y)) (list_all (λ z. not (p z)) before) h in
    ap (λ b. cond b (Some y) (find p (before ++ x ∷ after))) (not_true (p y) parts.0) ∙ found_behind p before x after parts.1 is

module _ {X : Type 0} (beats : X → X → Bool) (order : IsStrictWeakOrder beats) where
  same : (x : X) → beats x x ≡ false
  same x = go (beats x x) refl
    where
      go : (b : Bool) → beats x x ≡ b → beats x x ≡ false
      go true e = order.one_way x x e
      go false e = e

  -- better than one is better than each that isn't better than that
  beyond : (h x y : X) → beats h x ≡ true → beats y x ≡ false → beats h y ≡ true
  beyond h x y up side = go (beats h y) refl
    where
      go : (b : Bool) → beats h y ≡ b → beats h y ≡ true
      go true e = e
      go false e = let f = order.chain h y x e side in cc

  is_found : (xs : List X) (q : Option X) → IsTop beats xs q → top beats xs ≡ q
  is_found xs None h = ap (top beats) h
  is_found xs (Some x) h = ap (top beats) h.2 ∙ found_behind test h.0 x h.1 (all_weaker (beats x) (λ y. not (test y)) lost h.0 h.3) stays
    where
      test : X → Bool
      test y = list_all (λ z. not (beats z y)) (h.0 ++ x ∷ h.1)

      lost : (y : X) → beats x y ≡ true → not (test y) ≡ true
      lost y e = ap not (list_all-append (λ z. not (beats z y)) h.0 (x ∷ h.1) ∙ and_lost (list_all (λ z. not (beats z y)) h.0) (not (beats x y) && list_all (λ z. not (beats z y)) h.1) (ap (λ b. not b && list_all (λ z. not (beats z y)) h.1) e))

      stays : test x ≡ true
      stays = list_all-append (λ z. not (beats z x)) h.0 (x ∷ h.1) ∙ and_true (list_all (λ z. not (beats z x)) h.0) (not (beats x x) && list_all (λ z. not (beats z x)) h.1) (all_weaker (beats x) (λ z. not (beats z x)) (λ z e. ap not (order.one_way x z e)) h.0 h.3) (and_true (not (beats x x)) (list_all (λ z. not (beats z x)) h.1) (ap not (same x)) h.4)

  is_kept : (xs : List X) (q : Option X) (x : X) → IsTop beats xs q → IsTop beats (xs ++ x ∷ []) (better beats x q)
  is_kept xs None x h = ([], [], ap (λ ys. ys ++ x ∷ []) h, refl, refl)
  is_kept xs (Some y) x h = go (beats x y) refl
    where
      go : (b : Bool) → beats x y ≡ b → IsTop beats (xs ++ x ∷ []) (cond b (Some x) (Some y))
      go true e = (xs, [], refl, ap (list_all (beats x)) h.2 ∙ (list_all-append (beats x) h.0 (y ∷ h.1) ∙ and_true (list_all (beats x) h.0) (beats x y && list_all (beats x) h.1) (all_weaker (beats y) (beats x) (λ z f. beyond x y z e (order.one_way y z f)) h.0 h.3) (and_true (beats x y) (list_all (beats x) h.1) e (all_weaker (λ z. not (beats z y)) (beats x) (λ z f. beyond x y z e (not_true (beats z y) f)) h.1 h.4))), refl)
      go false e = (h.0, h.1 ++ x ∷ [], ap (λ ys. ys ++ x ∷ []) h.2 ∙ append_assoc h.0 (y ∷ h.1) (x ∷ []), h.3, list_all-append (λ z. not (beats z y)) h.1 (x ∷ []) ∙ and_true (list_all (λ z. not (beats z y)) h.1) (not (beats x y) && true) h.4 (and_true (not (beats x y)) true (ap not e) refl))

  has_top : (done : List X) (q : Option X) (xs : List X) → IsTop beats done q → (r : Option X) × IsTop beats (done ++ xs) r
  has_top done q [] h = (q, rw append-nil h)
  has_top done q (x ∷ xs) h = let more = has_top (done ++ x ∷ []) (better beats x q) xs (is_kept done q x h) in (more.0, rw (append_assoc done (x ∷ []) xs) at more.1)

  -- one element more
  pub top_more : (xs : List X) (x : X) → top beats (xs ++ x ∷ []) ≡ better beats x (top beats xs)
  top_more xs x =
      let h = has_top [] None xs refl in
      is_found (xs ++ x ∷ []) (better beats x h.0) (is_kept xs h.0 x h.1) ∙ ap (better beats x) (sym (is_found xs h.0 h.1))
