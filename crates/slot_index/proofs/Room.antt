-- What stands behind an id, and where a new number goes.
use Rattle.std.proofs.Common.{◌≡◌, ℕ, ◌<◌, ◌≤◌, ◌+◌, ◌-◌, ◌↔◌, true, false, not, eqb, List, [], ◌∷◌, ◌++◌, length, get_or, take, drop, Option, Some, None, inl, inr, ◌⊎◌, refl, sym, ap, ◌∙◌, ⊎_elim, zero, suc, arith, nat_eq, ◌^◌, Fits, w32}
use Rattle.std.specs.Prelude.{slice_get, IfSome, IsTrue}
use Rattle.std.specs.List.{All, AllByRecursion, IsDistinct, list_any, insert, position}
use Rattle.std.proofs.lemmas.List.Elements.{All-tail}
use Rattle.std.specs.Ordering.{nat_cmp}
use Rattle.std.specs.declared.ops.Bound.TheVariants.{Excluded, Unbounded}
use Rattle.std.specs.BTreeMap.{insert_entry}
use Rattle.std.specs.BTreeMap.Range.{entries_between, range_contains}
use Rattle.std.proofs.lemmas.Bool.{cases_Bool, cases_lt, eqb-true, ne_eqb, lt-ltb, or_cases}
use Rattle.std.proofs.lemmas.Bool.Decides.{nat_tests}
use Rattle.std.proofs.lemmas.List.Sums.{prefix_len-le-length}
use Rattle.std.proofs.lemmas.List.{length-map, get_or_default, length_push, length-take-le, get_or-take, get_or_at}
use Rattle.std.proofs.lemmas.Option.{slice_get-get_or, slice_get-map}
use Rattle.std.specs.Option.{option_map}
use Rattle.std.proofs.lemmas.Map.Steps.{length-le_from_distinct_below}
use Rattle.slot_index.specs.Order.{ids, place, place_after, Has, number_of, IsNumbered}
use Rattle.slot_index.specs.Renewed.{low_end, IsRoom}
use Rattle.slot_index.proofs.Present.{AllAbove, place_head, place_tail, number_head, number_tail, Has-tail, number_of-above, has_from_number}
use Rattle.slot_index.proofs.Ordered.{cmp_less, cmp_greater, cmp_equal, Rises, Rises-tail, AllBelow, above_head, slots_above, slots_above-all, slots_above_number, insert_entry_at, below_up_to}

-- the number of an id tells whether it is in the list
pub present_iff : (slots : List (ℕ × ℕ)) (id number : ℕ) → number ≡ number_of slots id → AllAbove 0 slots → IsTrue (not (nat_eq number 0)) ↔ Has slots id
present_iff slots id number is p =
    (λ t. has_from_number slots id (positive number t is), λ h. tested number (omega (arith, is, number_of-above 0 slots id p h)))
  where
    positive : (n : ℕ) → IsTrue (not (nat_eq n 0)) → n ≡ number_of slots id → 0 < number_of slots id
    positive n t e = grind (arith, nat_tests)

    tested : (n : ℕ) → 0 < n → IsTrue (not (nat_eq n 0))
    tested n h = rw (ne_eqb n 0 (λ e. omega arith)) refl

-- the slots behind an id are those with larger numbers
pub slots_behind : (after : Option ℕ) (slots : List (ℕ × ℕ)) → IsNumbered slots → IfSome after (Has slots) → slots_above (low_end after slots) slots ≡ drop (place_after after (ids slots)) slots
slots_behind None slots n known = slots_above-all 0 slots n.positive
slots_behind (Some id) slots n known = slots_above_number slots id n.rising known

slice_get-drop : {X : Type 0} (xs : List X) (p : ℕ) (x : X) (rest : List X) → drop p xs ≡ x ∷ rest → slice_get xs p ≡ Some x
slice_get-drop [] zero x rest e = cc
slice_get-drop [] (suc p) x rest e = cc
slice_get-drop (y ∷ xs) zero x rest e = cc
slice_get-drop (y ∷ xs) (suc p) x rest e = slice_get-drop xs p x rest e

slice_get-drop_none : {X : Type 0} (xs : List X) (p : ℕ) → drop p xs ≡ [] → slice_get xs p ≡ None
slice_get-drop_none [] zero e = refl
slice_get-drop_none [] (suc p) e = refl
slice_get-drop_none (y ∷ xs) zero e = cc
slice_get-drop_none (y ∷ xs) (suc p) e = slice_get-drop_none xs p e

-- the first slot above a number that stands before a place is the one at that place
pub first_behind : (after : Option ℕ) (slots part : List (ℕ × ℕ)) (low : ℕ) (s : ℕ × ℕ) (rest : List (ℕ × ℕ)) → IsNumbered slots → IfSome after (Has slots) → low ≡ low_end after slots → part ≡ slots_above low slots → part ≡ s ∷ rest → Some s ≡ slice_get slots (place_after after (ids slots))
first_behind after slots part low s rest n known is all first =
    sym (slice_get-drop slots (place_after after (ids slots)) s rest (sym (slots_behind after slots n known) ∙ (ap (λ k. slots_above k slots) (sym is) ∙ (sym all ∙ first))))

pub none_behind : (after : Option ℕ) (slots part : List (ℕ × ℕ)) (low : ℕ) → IsNumbered slots → IfSome after (Has slots) → low ≡ low_end after slots → part ≡ slots_above low slots → part ≡ [] → None ≡ slice_get slots (place_after after (ids slots))
none_behind after slots part low n known is all none =
    sym (slice_get-drop_none slots (place_after after (ids slots)) (sym (slots_behind after slots n known) ∙ (ap (λ k. slots_above k slots) (sym is) ∙ (sym all ∙ none))))

-- ---- a new number where there is room for it

place-le : (id : ℕ) (xs : List ℕ) → place id xs ≤ length xs
place-le id xs = prefix_len-le-length _ xs

pub place_after-le : (after : Option ℕ) (slots : List (ℕ × ℕ)) → IfSome after (Has slots) → place_after after (ids slots) ≤ length slots
place_after-le None slots known = omega arith
place_after-le (Some id) slots known = omega (arith, length-map slots (λ (s : ℕ × ℕ). s.1))

below_room : (after : Option ℕ) (slots : List (ℕ × ℕ)) (number : ℕ) → IsNumbered slots → IfSome after (Has slots) → low_end after slots < number → AllBelow number (take (place_after after (ids slots)) slots)
below_room None slots number n known low = tt
below_room (Some id) slots number n known low = below_up_to slots number id n.rising known low

pub inserted_at_room : (after : Option ℕ) (slots : List (ℕ × ℕ)) (number id : ℕ) → IsNumbered slots → IfSome after (Has slots) → IsRoom after slots number → insert_entry nat_cmp slots number id ≡ insert slots (place_after after (ids slots)) (number, id)
inserted_at_room after slots number id n known room =
    insert_entry_at slots (place_after after (ids slots)) number id (place_after-le after slots known) (below_room after slots number n known room.0) room.1

-- a place that a search finds
pub position_found : (id : ℕ) (xs : List ℕ) → place id xs < length xs → position (λ x. eqb x id) xs ≡ Some (place id xs)
position_found id xs h = rw (lt-ltb (place id xs) (length xs) h) refl

-- ---- how many ids there can be

below_listed : (n : ℕ) (xs : List ℕ) → All (λ x. x < n) xs → (q : ℕ) → list_any (eqb q) xs ≡ true → q < n
below_listed n [] h q any = cc
below_listed n (x ∷ xs) h q any =
    ⊎_elim (λ e. omega (arith, eqb-true q x e, h 0 0 (omega arith))) (below_listed n xs (All-tail (λ y. y < n) x xs h) q) (or_cases (eqb q x) (list_any (eqb q) xs) any)

all_fit : (xs : List ℕ) → ((i : ℕ) → Fits w32 (get_or xs i 0)) → All (λ x. x < 2 ^ 32) xs
all_fit xs h k d l = rw (get_or_default xs k d 0 l) (omega (arith, h k))

pub length-le_from_distinct : (xs : List ℕ) → IsDistinct eqb xs → ((i : ℕ) → Fits w32 (get_or xs i 0)) → length xs ≤ 2 ^ 32
length-le_from_distinct xs d h = length-le_from_distinct_below xs (2 ^ 32) d (below_listed (2 ^ 32) xs (all_fit xs h))

-- ---- the slots before an id are those with smaller numbers

-- the slots whose numbers are below `high`
abbrev pub slots_below : ℕ → List (ℕ × ℕ) → List (ℕ × ℕ)
slots_below high slots = entries_between nat_cmp Unbounded (Excluded high) slots

lost_below : (high q : ℕ) → high ≤ q → range_contains nat_cmp Unbounded (Excluded high) q ≡ false
lost_below high q h = ⊎_elim (λ l. rw (cmp_less high q l) refl) (λ e. rw (← e, cmp_equal high) refl) (cases_le high q h)
  where
    cases_le : (a b : ℕ) → a ≤ b → (a < b) ⊎ (a ≡ b)
    cases_le a b h = ⊎_elim (λ l. inl l) (λ g. inr (omega arith)) (cases_lt a b)

kept_below : (high q : ℕ) → q < high → range_contains nat_cmp Unbounded (Excluded high) q ≡ true
kept_below high q h = rw (cmp_greater high q h) refl

slots_below-none : (high : ℕ) (slots : List (ℕ × ℕ)) → AllByRecursion (λ s. high ≤ s.0) slots → slots_below high slots ≡ []
slots_below-none high [] h = refl
slots_below-none high (s ∷ slots) h = rw (lost_below high s.0 h.0) (slots_below-none high slots h.1)

above_at : (low : ℕ) (slots : List (ℕ × ℕ)) → AllAbove low slots → AllByRecursion (λ s. low ≤ s.0) slots
above_at low [] h = tt
above_at low (s ∷ slots) h = (omega (arith, h.0), above_at low slots h.1)

slots_below-kept : (high : ℕ) (s : ℕ × ℕ) (slots : List (ℕ × ℕ)) → s.0 < high → slots_below high (s ∷ slots) ≡ s ∷ slots_below high slots
slots_below-kept high s slots h = rw (kept_below high s.0 h) refl

pub slots_before : (slots : List (ℕ × ℕ)) (id : ℕ) → Rises slots → Has slots id → slots_below (number_of slots id) slots ≡ take (place id (ids slots)) slots
slots_before [] id r h = absurd (omega arith)
slots_before (s ∷ slots) id r h = ⊎_elim at_head (at_tail (slots_before slots id (Rises-tail s slots r))) (cases_Bool (eqb s.1 id))
  where
    at_head : eqb s.1 id ≡ true → slots_below (number_of (s ∷ slots) id) (s ∷ slots) ≡ take (place id (ids (s ∷ slots))) (s ∷ slots)
    at_head e =
        let none = slots_below-none s.0 (s ∷ slots) (omega arith, above_at s.0 slots (above_head s slots r)) in
        ap (λ n. slots_below n (s ∷ slots)) (number_head s slots id e) ∙ (none ∙ sym (ap (λ p. take p (s ∷ slots)) (place_head s slots id e)))

    at_tail : (Has slots id → slots_below (number_of slots id) slots ≡ take (place id (ids slots)) slots) → eqb s.1 id ≡ false → slots_below (number_of (s ∷ slots) id) (s ∷ slots) ≡ take (place id (ids (s ∷ slots))) (s ∷ slots)
    at_tail rest e =
        let has = Has-tail s slots id e h in
        let first = slots_below-kept (number_of slots id) s slots (number_of-above s.0 slots id (above_head s slots r) has) in
        ap (λ n. slots_below n (s ∷ slots)) (number_tail s slots id e) ∙ (first ∙ (ap (λ q. s ∷ q) (rest has) ∙ sym (ap (λ p. take p (s ∷ slots)) (place_tail s slots id e))))

-- the last of a list's first p elements
taken_last : {X : Type 0} (xs : List X) (p : ℕ) (rest : List X) (x : X) → p ≤ length xs → take p xs ≡ rest ++ x ∷ [] → (0 < p) × (slice_get xs (p - 1) ≡ Some x)
taken_last xs p rest x h e =
    let len : length rest + 1 ≡ p = sym (length_push rest x) ∙ (sym (ap length e) ∙ length-take-le p xs h) in
    let at : length rest ≡ p - 1 = omega arith in
    let got = sym (get_or-take p xs (p - 1) x (omega arith)) ∙ (ap (λ ys. get_or ys (p - 1) x) e ∙ get_or_at rest x [] x (p - 1) at) in
    (omega arith, slice_get-get_or xs (p - 1) x (omega arith) ∙ ap (λ y. Some y) got)

-- the last slot below an id's number is the one right before the id
pub last_before : (slots part : List (ℕ × ℕ)) (id high : ℕ) (rest : List (ℕ × ℕ)) (s : ℕ × ℕ) → IsNumbered slots → Has slots id → high ≡ number_of slots id → part ≡ slots_below high slots → part ≡ rest ++ s ∷ [] → (0 < place id (ids slots)) × (Some s.1 ≡ slice_get (ids slots) (place id (ids slots) - 1))
last_before slots part id high rest s n has is all last =
    let taken = sym (slots_before slots id n.rising has) ∙ (ap (λ k. slots_below k slots) (sym is) ∙ (sym all ∙ last)) in
    let le : place id (ids slots) ≤ length slots = omega (arith, length-map slots (λ (s : ℕ × ℕ). s.1)) in
    let found = taken_last slots (place id (ids slots)) rest s le taken in
    (found.0, sym (slice_get-map (λ (s : ℕ × ℕ). s.1) slots (place id (ids slots) - 1) ∙ ap (option_map (λ (s : ℕ × ℕ). s.1)) found.1))

pub none_before : (slots part : List (ℕ × ℕ)) (id high : ℕ) → IsNumbered slots → Has slots id → high ≡ number_of slots id → part ≡ slots_below high slots → part ≡ [] → place id (ids slots) ≡ 0
none_before slots part id high n has is all none =
    let taken = sym (slots_before slots id n.rising has) ∙ (ap (λ k. slots_below k slots) (sym is) ∙ (sym all ∙ none)) in
    let le : place id (ids slots) ≤ length slots = omega (arith, length-map slots (λ (s : ℕ × ℕ). s.1)) in
    omega (arith, ap length taken, length-take-le (place id (ids slots)) slots le)
