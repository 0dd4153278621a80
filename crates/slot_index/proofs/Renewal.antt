-- Numbers that are given anew.
use Rattle.std.proofs.Common.{◌≡◌, ℕ, ◌<◌, ◌≤◌, ◌+◌, true, false, cond, eqb, List, [], ◌∷◌, ◌++◌, length, get_or, set, drop, refl, sym, ap, ◌∙◌, ⊎_elim, arith, get_or-set_same, get_or-set_other, length-set, append_assoc}
use Rattle.std.proofs.lemmas.List.{at_drop_more}
use Rattle.std.specs.List.{AllByRecursion, IsDistinct}
use Rattle.std.specs.List.Sorted.{IsStrictlySortedBy}
use Rattle.std.specs.Ordering.{nat_cmp}
use Rattle.std.specs.BTreeMap.{insert_entry}
use Rattle.std.proofs.lemmas.Bool.{cases_Bool, eqb-true, eqb-false, eq-eqb}
use Rattle.std.proofs.lemmas.Bool.Decides.{nat_tests}
use Rattle.std.proofs.lemmas.Map.Keys.{IsDistinct-head, IsDistinct-tail}
use Rattle.slot_index.specs.Order.{ids, number_of}
use Rattle.slot_index.specs.Renewed.{spaced, written}
use Rattle.slot_index.proofs.Present.{AllAbove, number_head, number_tail, number_of-above, Has-head, Has-behind, has_from_number}
use Rattle.slot_index.proofs.Ordered.{AllBelow, Rises, Rises-cons, insert_entry_last}
use Rattle.slot_index.proofs.Edits.{absent_from_new}

pub ids-spaced : (distance last : ℕ) (xs : List ℕ) → ids (spaced distance last xs) ≡ xs
ids-spaced distance last [] = refl
ids-spaced distance last (id ∷ xs) = ap (λ r. id ∷ r) (ids-spaced distance (last + distance) xs)

above_weaker : (low high : ℕ) (slots : List (ℕ × ℕ)) → low ≤ high → AllAbove high slots → AllAbove low slots
above_weaker low high [] le h = tt
above_weaker low high (s ∷ slots) le h = (omega (arith, h.0), above_weaker low high slots le h.1)

pub AllAbove-spaced : (distance last : ℕ) (xs : List ℕ) → 0 < distance → AllAbove last (spaced distance last xs)
AllAbove-spaced distance last [] h = tt
AllAbove-spaced distance last (id ∷ xs) h =
    (omega arith, above_weaker last (last + distance) _ (omega arith) (AllAbove-spaced distance (last + distance) xs h))

-- each slot's id has a cell among the numbers by id
abbrev pub AllWithin : ℕ → List (ℕ × ℕ) → Type 0
AllWithin limit slots = AllByRecursion (λ id. id < limit) (ids slots)

written_here : (x m g n total other : ℕ) → x ≡ cond (eqb m 0) g m → m ≡ 0 → g ≡ n → total ≡ n → 0 < n → x ≡ cond (eqb total 0) other total
written_here x m g n total other e zero_there got whole pos = grind (arith, nat_tests)

written_there : (x m g total other : ℕ) → x ≡ cond (eqb m 0) g m → g ≡ other → total ≡ m → x ≡ cond (eqb total 0) other total
written_there x m g total other e got whole = grind (arith, nat_tests)

-- what is at an id after the numbers are written: its number, or for others what was there
pub get_or-written : (slots : List (ℕ × ℕ)) (numbers : List ℕ) (k : ℕ) → IsDistinct eqb (ids slots) → AllAbove 0 slots → AllWithin (length numbers) slots → get_or (written slots numbers) k 0 ≡ cond (eqb (number_of slots k) 0) (get_or numbers k 0) (number_of slots k)
get_or-written [] numbers k d p within = refl
get_or-written (s ∷ slots) numbers k d p within =
    let n = length-set numbers s.1 s.0 in
    let rest = get_or-written slots (set numbers s.1 s.0) k (IsDistinct-tail eqb s.1 (ids slots) d) p.1 (rw n within.1) in
    ⊎_elim (at_head rest) (at_tail rest) (cases_Bool (eqb s.1 k))
  where
    at_head : get_or (written slots (set numbers s.1 s.0)) k 0 ≡ cond (eqb (number_of slots k) 0) (get_or (set numbers s.1 s.0) k 0) (number_of slots k) → eqb s.1 k ≡ true → get_or (written slots (set numbers s.1 s.0)) k 0 ≡ cond (eqb (number_of (s ∷ slots) k) 0) (get_or numbers k 0) (number_of (s ∷ slots) k)
    at_head rest e =
        let same = eqb-true s.1 k e in
        let gone = ap (number_of slots) (sym same) ∙ absent_from_new slots s.1 (IsDistinct-head eqb s.1 (ids slots) d) in
        let got = ap (λ i. get_or (set numbers s.1 s.0) i 0) (sym same) ∙ get_or-set_same numbers s.1 s.0 0 within.0 in
        written_here _ _ _ s.0 _ _ rest gone got (number_head s slots k e) p.0

    at_tail : get_or (written slots (set numbers s.1 s.0)) k 0 ≡ cond (eqb (number_of slots k) 0) (get_or (set numbers s.1 s.0) k 0) (number_of slots k) → eqb s.1 k ≡ false → get_or (written slots (set numbers s.1 s.0)) k 0 ≡ cond (eqb (number_of (s ∷ slots) k) 0) (get_or numbers k 0) (number_of (s ∷ slots) k)
    at_tail rest e =
        written_there _ _ _ _ _ rest (get_or-set_other numbers s.1 k s.0 0 (λ i. eqb-false s.1 k e (sym i))) (number_tail s slots k e)

-- each id that has a number has a cell, where the numbers are kept by id
pub AllWithin-from_indexed : (slots : List (ℕ × ℕ)) (limit : ℕ) → AllAbove 0 slots → ((id : ℕ) → 0 < number_of slots id → id < limit) → AllWithin limit slots
AllWithin-from_indexed [] limit p h = tt
AllWithin-from_indexed (s ∷ slots) limit p h = (
  h s.1 (number_of-above 0 (s ∷ slots) s.1 p (Has-head s slots s.1 (eq-eqb s.1 s.1 refl))),
  AllWithin-from_indexed slots limit p.1 (λ id n. h id (number_of-above 0 (s ∷ slots) id p (Has-behind s slots id (has_from_number slots id n)))),
)

pub Rises-spaced : (distance last : ℕ) (xs : List ℕ) → 0 < distance → Rises (spaced distance last xs)
unfolding IsStrictlySortedBy
Rises-spaced distance last [] h = tt
Rises-spaced distance last (id ∷ xs) h = Rises-cons (last + distance, id) (spaced distance (last + distance) xs) (AllAbove-spaced distance (last + distance) xs h) (Rises-spaced distance (last + distance) xs h)

-- ---- one more id is given its number

below_weaker : (low high : ℕ) (slots : List (ℕ × ℕ)) → low ≤ high → AllBelow low slots → AllBelow high slots
below_weaker low high [] le h = tt
below_weaker low high (s ∷ slots) le h = (omega (arith, h.0), below_weaker low high slots le h.1)

AllBelow-push : (high : ℕ) (slots : List (ℕ × ℕ)) (s : ℕ × ℕ) → s.0 < high → AllBelow high slots → AllBelow high (slots ++ s ∷ [])
AllBelow-push high [] s new h = (new, tt)
AllBelow-push high (x ∷ slots) s new h = (h.0, AllBelow-push high slots s new h.1)

pub numbered_below : (distance last id : ℕ) (slots after : List (ℕ × ℕ)) → 0 < distance → AllBelow (last + 1) slots → after ≡ insert_entry nat_cmp slots (last + distance) id → AllBelow (last + distance + 1) after
numbered_below distance last id slots after apart below put =
    rw (put ∙ insert_entry_last slots (last + distance) id (below_weaker (last + 1) (last + distance) slots (omega arith) below)) (AllBelow-push (last + distance + 1) slots (last + distance, id) (omega arith) (below_weaker (last + 1) (last + distance + 1) slots (omega arith) below))

pub numbered_more : (distance last i id : ℕ) (order : List ℕ) (slots after whole : List (ℕ × ℕ)) → i < length order → id ≡ get_or order i 0 → 0 < distance → AllBelow (last + 1) slots → after ≡ insert_entry nat_cmp slots (last + distance) id → slots ++ spaced distance last (drop i order) ≡ whole → after ++ spaced distance (last + distance) (drop (i + 1) order) ≡ whole
numbered_more distance last i id order slots after whole within is apart below put so_far =
    let pushed = put ∙ insert_entry_last slots (last + distance) id (below_weaker (last + 1) (last + distance) slots (omega arith) below) in
    let next = at_drop_more (spaced distance last) order i 0 within in
    let split = append_assoc slots ((last + distance, id) ∷ []) (spaced distance (last + distance) (drop (i + 1) order)) in
    rw pushed (split ∙ (ap (λ x. slots ++ ((last + distance, x) ∷ spaced distance (last + distance) (drop (i + 1) order))) is ∙ (ap (λ r. slots ++ r) (sym next) ∙ so_far)))
