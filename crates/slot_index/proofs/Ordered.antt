-- Numbers that rise along the list: what they say of places, and what the map from numbers does.
use Rattle.std.proofs.Common.{◌≡◌, ℕ, ◌<◌, ◌≤◌, ◌+◌, true, false, eqb, List, [], ◌∷◌, ◌++◌, length, get_or, take, drop, refl, sym, ap, ◌∙◌, ⊎_elim, zero, suc, arith}
use Rattle.std.proofs.lemmas.List.{length-map}
use Rattle.std.specs.Prelude.{slice_get, IfSome}
use Rattle.std.specs.List.{AllByRecursion, insert, remove}
use Rattle.std.specs.List.Sorted.{IsStrictlySortedBy}
use Rattle.std.specs.Ordering.{nat_cmp}
use Rattle.std.specs.declared.cmp.Ordering.TheVariants.{Less, Equal, Greater}
use Rattle.std.specs.declared.ops.Bound.TheVariants.{Excluded, Unbounded}
use Rattle.std.specs.Map.{keys_of, remove_entry}
use Rattle.std.specs.BTreeMap.{insert_entry, is_at}
use Rattle.std.specs.BTreeMap.Range.{range_contains, entries_between}
use Rattle.std.proofs.lemmas.Bool.{cases_Bool, cases_order, lt-ltb, le-ltb, eq-eqb, ne_eqb}
use Rattle.std.proofs.lemmas.Cmp.{ranked}
use Rattle.std.proofs.lemmas.Map.Keys.{sorted_head, sorted_tail, below_from_sorted}
use Rattle.slot_index.specs.Order.{ids, place, Has, number_of, NumbersTellOrder}
use Rattle.slot_index.proofs.Present.{AllAbove, place_head, place_tail, number_head, number_tail, Has-tail, number_of-above, number_of_at_place}

-- the numbers rise along the list
abbrev pub Rises : List (ℕ × ℕ) → Type 0
Rises slots = IsStrictlySortedBy nat_cmp (keys_of slots)

-- each number is below `high`
abbrev pub AllBelow : ℕ → List (ℕ × ℕ) → Type 0
AllBelow high slots = AllByRecursion (λ s. s.0 < high) slots

pub cmp_less : (a b : ℕ) → a < b → nat_cmp a b ≡ Less
cmp_less a b h = rw (lt-ltb a b h) refl

pub cmp_greater : (a b : ℕ) → b < a → nat_cmp a b ≡ Greater
cmp_greater a b h = rw (le-ltb a b (omega arith), ne_eqb a b (λ e. omega arith)) refl

pub cmp_equal : (a : ℕ) → nat_cmp a a ≡ Equal
cmp_equal a = rw (le-ltb a a (omega arith), eq-eqb a a refl) refl

above_from_keys : (low : ℕ) (slots : List (ℕ × ℕ)) → AllByRecursion (λ y. nat_cmp low y ≡ Less) (keys_of slots) → AllAbove low slots
above_from_keys low [] h = tt
above_from_keys low (s ∷ slots) h = (ranked low s.0 Less (sym h.0), above_from_keys low slots h.1)

keys_from_above : (low : ℕ) (slots : List (ℕ × ℕ)) → AllAbove low slots → AllByRecursion (λ y. nat_cmp low y ≡ Less) (keys_of slots)
keys_from_above low [] h = tt
keys_from_above low (s ∷ slots) h = (cmp_less low s.0 h.0, keys_from_above low slots h.1)

pub Rises-cons : (s : ℕ × ℕ) (slots : List (ℕ × ℕ)) → AllAbove s.0 slots → Rises slots → Rises (s ∷ slots)
unfolding IsStrictlySortedBy
Rises-cons s slots above r = (keys_from_above s.0 slots above, r)

-- the first number is below the others, and these rise
pub above_head : (s : ℕ × ℕ) (slots : List (ℕ × ℕ)) → Rises (s ∷ slots) → AllAbove s.0 slots
above_head s slots h = above_from_keys s.0 slots (sorted_head nat_cmp s.0 (keys_of slots) h)

pub Rises-tail : (s : ℕ × ℕ) (slots : List (ℕ × ℕ)) → Rises (s ∷ slots) → Rises slots
Rises-tail s slots h = sorted_tail nat_cmp s.0 (keys_of slots) h

-- an id that stands earlier has the smaller number
number-lt : (slots : List (ℕ × ℕ)) (a b : ℕ) → Rises slots → Has slots b → place a (ids slots) < place b (ids slots) → number_of slots a < number_of slots b
number-lt slots a b r hb lt =
    let within : place b (ids slots) < length (keys_of slots) = omega (arith, length-map slots (λ (s : ℕ × ℕ). s.0), length-map slots (λ (s : ℕ × ℕ). s.1)) in
    omega (arith, number_of_at_place slots a, number_of_at_place slots b, below_from_sorted (keys_of slots) _ _ 0 r lt within)

same_number : (slots : List (ℕ × ℕ)) (a b : ℕ) → place a (ids slots) ≡ place b (ids slots) → number_of slots a ≡ number_of slots b
same_number slots a b e = number_of_at_place slots a ∙ (ap (λ i. get_or (keys_of slots) i 0) e ∙ sym (number_of_at_place slots b))

pub numbers_tell_order : (slots : List (ℕ × ℕ)) → Rises slots → NumbersTellOrder slots
numbers_tell_order slots r a b ha hb = (to, number-lt slots a b r hb)
  where
    to : number_of slots a < number_of slots b → place a (ids slots) < place b (ids slots)
    to h =
        ⊎_elim (λ e. absurd (omega (arith, same_number slots a b e)))
        (λ o. ⊎_elim (λ l. l) (λ g. absurd (omega (arith, number-lt slots b a r ha g))) o)
        (cases_order (place a (ids slots)) (place b (ids slots)))

-- ---- the part of the map above a number

kept : (low q : ℕ) → low < q → range_contains nat_cmp (Excluded low) Unbounded q ≡ true
kept low q h = rw (cmp_less low q h) refl

lost_at : (low : ℕ) → range_contains nat_cmp (Excluded low) Unbounded low ≡ false
lost_at low = rw (cmp_equal low) refl

lost : (low q : ℕ) → q < low → range_contains nat_cmp (Excluded low) Unbounded q ≡ false
lost low q h = rw (cmp_greater low q h) refl

-- the slots whose numbers are above `low`
abbrev pub slots_above : ℕ → List (ℕ × ℕ) → List (ℕ × ℕ)
slots_above low slots = entries_between nat_cmp (Excluded low) Unbounded slots

pub slots_above-all : (low : ℕ) (slots : List (ℕ × ℕ)) → AllAbove low slots → slots_above low slots ≡ slots
slots_above-all low [] h = refl
slots_above-all low (s ∷ slots) h = rw (kept low s.0 h.0) (ap (λ r. s ∷ r) (slots_above-all low slots h.1))

slots_above-lost : (low : ℕ) (s : ℕ × ℕ) (slots : List (ℕ × ℕ)) → s.0 < low → slots_above low (s ∷ slots) ≡ slots_above low slots
slots_above-lost low s slots h = rw (lost low s.0 h) refl

slots_above-at : (s : ℕ × ℕ) (slots : List (ℕ × ℕ)) → slots_above s.0 (s ∷ slots) ≡ slots_above s.0 slots
slots_above-at s slots = rw (lost_at s.0) refl

-- they are those behind the id that has the number
pub slots_above_number : (slots : List (ℕ × ℕ)) (id : ℕ) → Rises slots → Has slots id → slots_above (number_of slots id) slots ≡ drop (place id (ids slots) + 1) slots
slots_above_number [] id r h = absurd (omega arith)
slots_above_number (s ∷ slots) id r h = ⊎_elim at_head (at_tail (slots_above_number slots id (Rises-tail s slots r))) (cases_Bool (eqb s.1 id))
  where
    at_head : eqb s.1 id ≡ true → slots_above (number_of (s ∷ slots) id) (s ∷ slots) ≡ drop (place id (ids (s ∷ slots)) + 1) (s ∷ slots)
    at_head e =
        ap (λ n. slots_above n (s ∷ slots)) (number_head s slots id e) ∙ (slots_above-at s slots ∙ (slots_above-all s.0 slots (above_head s slots r) ∙ sym (ap (λ p. drop (p + 1) (s ∷ slots)) (place_head s slots id e))))

    at_tail : (Has slots id → slots_above (number_of slots id) slots ≡ drop (place id (ids slots) + 1) slots) → eqb s.1 id ≡ false → slots_above (number_of (s ∷ slots) id) (s ∷ slots) ≡ drop (place id (ids (s ∷ slots)) + 1) (s ∷ slots)
    at_tail rest e =
        let has = Has-tail s slots id e h in
        let next : place id (ids (s ∷ slots)) + 1 ≡ suc (place id (ids slots) + 1) = omega (arith, place_tail s slots id e) in
        ap (λ n. slots_above n (s ∷ slots)) (number_tail s slots id e) ∙ (slots_above-lost _ s slots (number_of-above s.0 slots id (above_head s slots r) has) ∙ (rest has ∙ sym (ap (λ p. drop p (s ∷ slots)) next)))

-- ---- a new slot, between the numbers before and behind a place

pub insert_entry_at : (slots : List (ℕ × ℕ)) (p number id : ℕ) → p ≤ length slots → AllBelow number (take p slots) → IfSome (slice_get slots p) (λ s. number < s.0) → insert_entry nat_cmp slots number id ≡ insert slots p (number, id)
insert_entry_at [] zero number id within below above = refl
insert_entry_at [] (suc p) number id within below above = absurd (omega arith)
insert_entry_at (s ∷ slots) zero number id within below above = rw (cmp_less number s.0 above) refl
insert_entry_at (s ∷ slots) (suc p) number id within below above =
    rw (cmp_greater number s.0 below.0) (ap (λ r. s ∷ r) (insert_entry_at slots p number id (omega arith) below.1 above))

pub insert_entry_last : (slots : List (ℕ × ℕ)) (number id : ℕ) → AllBelow number slots → insert_entry nat_cmp slots number id ≡ slots ++ (number, id) ∷ []
insert_entry_last [] number id below = refl
insert_entry_last (s ∷ slots) number id below = rw (cmp_greater number s.0 below.0) (ap (λ r. s ∷ r) (insert_entry_last slots number id below.1))

pub below_up_to : (slots : List (ℕ × ℕ)) (number id : ℕ) → Rises slots → Has slots id → number_of slots id < number → AllBelow number (take (place id (ids slots) + 1) slots)
below_up_to [] number id r h lt = absurd (omega arith)
below_up_to (s ∷ slots) number id r h lt = ⊎_elim at_head (at_tail (below_up_to slots number id (Rises-tail s slots r))) (cases_Bool (eqb s.1 id))
  where
    at_head : eqb s.1 id ≡ true → AllBelow number (take (place id (ids (s ∷ slots)) + 1) (s ∷ slots))
    at_head e = rw (place_head s slots id e) (omega (arith, number_head s slots id e), tt)

    at_tail : (Has slots id → number_of slots id < number → AllBelow number (take (place id (ids slots) + 1) slots)) → eqb s.1 id ≡ false → AllBelow number (take (place id (ids (s ∷ slots)) + 1) (s ∷ slots))
    at_tail rest e =
        let has = Has-tail s slots id e h in
        let next : place id (ids (s ∷ slots)) + 1 ≡ suc (place id (ids slots) + 1) = omega (arith, place_tail s slots id e) in
        let here = number_of-above s.0 slots id (above_head s slots r) has in
        let same = number_tail s slots id e in
        rw next (omega arith, rest has (omega arith))

-- ---- a slot taken out by its number

removed_head : (s : ℕ × ℕ) (slots : List (ℕ × ℕ)) → remove_entry (is_at (nat_cmp s.0)) (s ∷ slots) ≡ slots
removed_head s slots = rw (cmp_equal s.0) refl

removed_tail : (number : ℕ) (s : ℕ × ℕ) (slots : List (ℕ × ℕ)) → s.0 < number → remove_entry (is_at (nat_cmp number)) (s ∷ slots) ≡ s ∷ remove_entry (is_at (nat_cmp number)) slots
removed_tail number s slots h = rw (cmp_greater number s.0 h) refl

pub remove_entry_at : (slots : List (ℕ × ℕ)) (id : ℕ) → Rises slots → Has slots id → remove_entry (is_at (nat_cmp (number_of slots id))) slots ≡ remove slots (place id (ids slots))
remove_entry_at [] id r h = absurd (omega arith)
remove_entry_at (s ∷ slots) id r h = ⊎_elim at_head (at_tail (remove_entry_at slots id (Rises-tail s slots r))) (cases_Bool (eqb s.1 id))
  where
    at_head : eqb s.1 id ≡ true → remove_entry (is_at (nat_cmp (number_of (s ∷ slots) id))) (s ∷ slots) ≡ remove (s ∷ slots) (place id (ids (s ∷ slots)))
    at_head e =
        ap (λ n. remove_entry (is_at (nat_cmp n)) (s ∷ slots)) (number_head s slots id e) ∙ (removed_head s slots ∙ sym (ap (remove (s ∷ slots)) (place_head s slots id e)))

    at_tail : (Has slots id → remove_entry (is_at (nat_cmp (number_of slots id))) slots ≡ remove slots (place id (ids slots))) → eqb s.1 id ≡ false → remove_entry (is_at (nat_cmp (number_of (s ∷ slots) id))) (s ∷ slots) ≡ remove (s ∷ slots) (place id (ids (s ∷ slots)))
    at_tail rest e =
        let has = Has-tail s slots id e h in
        let past = removed_tail _ s slots (number_of-above s.0 slots id (above_head s slots r) has) in
        ap (λ n. remove_entry (is_at (nat_cmp n)) (s ∷ slots)) (number_tail s slots id e) ∙ (past ∙ (ap (λ q. s ∷ q) (rest has) ∙ sym (ap (remove (s ∷ slots)) (place_tail s slots id e))))
