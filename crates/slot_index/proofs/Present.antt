-- Whether an id is in the list, and its number.
use Rattle.std.proofs.Common.{◌≡◌, ℕ, ◌<◌, true, false, eqb, List, [], ◌∷◌, get_or, refl, sym, ap, ◌∙◌, ⊎_elim, suc, arith}
use Rattle.std.specs.List.{AllByRecursion}
use Rattle.std.specs.Map.{keys_of}
use Rattle.std.proofs.lemmas.Bool.{cases_Bool}
use Rattle.slot_index.specs.Order.{ids, place, Has, number_of}

-- each number is above `low`
abbrev pub AllAbove : ℕ → List (ℕ × ℕ) → Type 0
AllAbove low slots = AllByRecursion (λ s. low < s.0) slots

-- the first slot, and the others
pub place_head : (s : ℕ × ℕ) (slots : List (ℕ × ℕ)) (id : ℕ) → eqb s.1 id ≡ true → place id (ids (s ∷ slots)) ≡ 0
place_head s slots id e = rw e refl

pub place_tail : (s : ℕ × ℕ) (slots : List (ℕ × ℕ)) (id : ℕ) → eqb s.1 id ≡ false → place id (ids (s ∷ slots)) ≡ suc (place id (ids slots))
place_tail s slots id e = rw e (omega arith)

pub number_head : (s : ℕ × ℕ) (slots : List (ℕ × ℕ)) (id : ℕ) → eqb s.1 id ≡ true → number_of (s ∷ slots) id ≡ s.0
number_head s slots id e = rw e refl

pub number_tail : (s : ℕ × ℕ) (slots : List (ℕ × ℕ)) (id : ℕ) → eqb s.1 id ≡ false → number_of (s ∷ slots) id ≡ number_of slots id
number_tail s slots id e = rw e refl

pub Has-head : (s : ℕ × ℕ) (slots : List (ℕ × ℕ)) (id : ℕ) → eqb s.1 id ≡ true → Has (s ∷ slots) id
Has-head s slots id e = omega (arith, place_head s slots id e)

pub Has-tail : (s : ℕ × ℕ) (slots : List (ℕ × ℕ)) (id : ℕ) → eqb s.1 id ≡ false → Has (s ∷ slots) id → Has slots id
Has-tail s slots id e h = omega (arith, place_tail s slots id e)

pub Has-behind : (s : ℕ × ℕ) (slots : List (ℕ × ℕ)) (id : ℕ) → Has slots id → Has (s ∷ slots) id
Has-behind s slots id h = ⊎_elim (λ e. Has-head s slots id e) (λ e. omega (arith, place_tail s slots id e)) (cases_Bool (eqb s.1 id))

-- an id has a number above 0 exactly where it is in the list
pub number_of-absent : (slots : List (ℕ × ℕ)) (id : ℕ) → (Has slots id → ⊥) → number_of slots id ≡ 0
number_of-absent [] id h = refl
number_of-absent (s ∷ slots) id h =
    ⊎_elim (λ e. absurd (h (Has-head s slots id e)))
    (λ e. number_tail s slots id e ∙ number_of-absent slots id (λ p. h (Has-behind s slots id p)))
    (cases_Bool (eqb s.1 id))

pub number_of-above : (low : ℕ) (slots : List (ℕ × ℕ)) (id : ℕ) → AllAbove low slots → Has slots id → low < number_of slots id
number_of-above low [] id p h = absurd (omega arith)
number_of-above low (s ∷ slots) id p h =
    ⊎_elim (λ e. omega (arith, number_head s slots id e, p.0))
    (λ e. omega (arith, number_tail s slots id e, number_of-above low slots id p.1 (Has-tail s slots id e h)))
    (cases_Bool (eqb s.1 id))

pub has_from_number : (slots : List (ℕ × ℕ)) (id : ℕ) → 0 < number_of slots id → Has slots id
has_from_number [] id h = absurd (omega arith)
has_from_number (s ∷ slots) id h =
    ⊎_elim (λ e. Has-head s slots id e)
    (λ e. Has-behind s slots id (has_from_number slots id (omega (arith, number_tail s slots id e))))
    (cases_Bool (eqb s.1 id))

-- the number stands at the id's place
pub number_of_at_place : (slots : List (ℕ × ℕ)) (id : ℕ) → number_of slots id ≡ get_or (keys_of slots) (place id (ids slots)) 0
number_of_at_place [] id = refl
number_of_at_place (s ∷ slots) id =
    ⊎_elim (λ e. number_head s slots id e ∙ sym (ap (λ i. get_or (keys_of (s ∷ slots)) i 0) (place_head s slots id e)))
    (λ e. number_tail s slots id e ∙ (number_of_at_place slots id ∙ sym (at_tail e)))
    (cases_Bool (eqb s.1 id))
  where
    at_tail : eqb s.1 id ≡ false → get_or (keys_of (s ∷ slots)) (place id (ids (s ∷ slots))) 0 ≡ get_or (keys_of slots) (place id (ids slots)) 0
    at_tail e = rw (place_tail s slots id e) refl
