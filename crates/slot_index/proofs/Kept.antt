-- The numbers by id agree with the list again after each edit.
use Rattle.std.proofs.Common.{◌≡◌, ℕ, ◌<◌, true, false, cond, eqb, List, [], length, get_or, set, refl, sym, ap, ◌∙◌, subst, ⊎_elim, arith, get_or-set_same, get_or-set_other}
use Rattle.std.specs.Prelude.{slice_index, Option, IfSome}
use Rattle.std.specs.Ordering.{nat_cmp}
use Rattle.std.specs.List.Sorted.{IsStrictlySortedBy}
use Rattle.std.specs.Map.{remove_entry}
use Rattle.std.specs.BTreeMap.{insert_entry, is_at}
use Rattle.std.specs.List.{IsDistinct, insert, remove}
use Rattle.std.proofs.lemmas.Bool.{cases_Bool, cases_lt, eqb-true, eqb-false}
use Rattle.std.proofs.lemmas.Bool.Decides.{nat_tests}
use Rattle.std.proofs.lemmas.List.{get_or_past}
use Rattle.slot_index.specs.Order.{ids, place, place_after, put_after, Has, number_of}
use Rattle.slot_index.specs.Indexed.{IsIndexed}
use Rattle.slot_index.specs.Renewed.{spaced, written, IsRoom}
use Rattle.slot_index.proofs.Present.{number_of-above}
use Rattle.slot_index.proofs.Ordered.{Rises, remove_entry_at}
use Rattle.slot_index.proofs.Room.{inserted_at_room}
use Rattle.slot_index.proofs.Edits.{IsNew, new_from_absent, absent_from_new, ids-insert, ids-remove, IsDistinct-insert, IsDistinct-remove, number_of-insert, number_of-remove, AllByRecursion-insert, AllByRecursion-remove, AllByRecursion-from_insert}
use Rattle.slot_index.proofs.Renewal.{AllWithin, AllWithin-from_indexed, AllAbove-spaced, Rises-spaced, ids-spaced, get_or-written}

pub indexed_empty : IsIndexed [] []
unfolding IsDistinct IsStrictlySortedBy
indexed_empty = record { numbered = record { distinct = tt; rising = tt; positive = tt }; indexed = λ k. refl }

-- longer, or the same
pub indexed_same : (old new : List ℕ) (slots : List (ℕ × ℕ)) → IsIndexed old slots → ((k : ℕ) → get_or new k 0 ≡ get_or old k 0) → IsIndexed new slots
indexed_same old new slots i same = record { numbered = i.numbered; indexed = λ k. same k ∙ i.indexed k }

-- a cell among the numbers by id, after a write at one id
get_or-cell : (numbers : List ℕ) (id number k : ℕ) → id < length numbers → get_or (set numbers id number) k 0 ≡ cond (eqb id k) number (get_or numbers k 0)
get_or-cell numbers id number k within = ⊎_elim at_id at_other (cases_Bool (eqb id k))
  where
    at_id : eqb id k ≡ true → get_or (set numbers id number) k 0 ≡ cond (eqb id k) number (get_or numbers k 0)
    at_id e = rw e (ap (λ i. get_or (set numbers id number) i 0) (sym (eqb-true id k e)) ∙ get_or-set_same numbers id number 0 within)

    at_other : eqb id k ≡ false → get_or (set numbers id number) k 0 ≡ cond (eqb id k) number (get_or numbers k 0)
    at_other e = rw e (get_or-set_other numbers id k number 0 (λ i. eqb-false id k e (sym i)))

-- a number above 0 is kept at a place below the length
pub within_from_number : (numbers : List ℕ) (id : ℕ) → 0 < get_or numbers id 0 → id < length numbers
within_from_number numbers id h = ⊎_elim (λ l. l) (λ g. absurd (omega (arith, get_or_past numbers id 0 g))) (cases_lt id (length numbers))

pub indexed_insert : (old new : List ℕ) (slots after : List (ℕ × ℕ)) (p number id : ℕ) → IsIndexed old slots → (Has slots id → ⊥) → ((k : ℕ) → get_or new k 0 ≡ get_or old k 0) → id < length new → 0 < number → after ≡ insert slots p (number, id) → Rises after → IsIndexed (set new id number) after
indexed_insert old new slots after p number id i absent same within pos is rises =
    let fresh = new_from_absent slots id absent in
    let agree : (k : ℕ) → slice_index (set new id number) k ≡ number_of (insert slots p (number, id)) k = λ k. get_or-cell new id number k within ∙ (ap (cond (eqb id k) number) (same k ∙ i.indexed k) ∙ sym (number_of-insert slots p number id k fresh)) in
    record {
      numbered = record {
        distinct = subst (IsDistinct eqb) (sym (ap ids is ∙ ids-insert slots p number id)) (IsDistinct-insert (ids slots) p id fresh i.numbered.distinct);
        rising = rises;
        positive = rw is (AllByRecursion-insert (λ s. 0 < s.0) slots p (number, id) pos i.numbered.positive);
      };
      indexed = λ k. rw is (agree k);
    }

pub indexed_remove : (numbers : List ℕ) (slots after : List (ℕ × ℕ)) (id : ℕ) → IsIndexed numbers slots → id < length numbers → after ≡ remove slots (place id (ids slots)) → Rises after → IsIndexed (set numbers id 0) after
indexed_remove numbers slots after id i within is rises =
    let agree : (k : ℕ) → slice_index (set numbers id 0) k ≡ number_of (remove slots (place id (ids slots))) k = λ k. get_or-cell numbers id 0 k within ∙ (ap (cond (eqb id k) 0) (i.indexed k) ∙ sym (number_of-remove slots id k i.numbered.distinct)) in
    record {
      numbered = record {
        distinct = subst (IsDistinct eqb) (sym (ap ids is ∙ ids-remove slots (place id (ids slots)))) (IsDistinct-remove (ids slots) (place id (ids slots)) i.numbered.distinct);
        rising = rises;
        positive = rw is (AllByRecursion-remove (λ s. 0 < s.0) slots (place id (ids slots)) i.numbered.positive);
      };
      indexed = λ k. rw is (agree k);
    }

-- the new list, of the order and its new numbers
module _ (distance : ℕ) (apart : 0 < distance) (old new : List ℕ) (slots : List (ℕ × ℕ)) (p id : ℕ) (i : IsIndexed old slots) (absent : Has slots id → ⊥) (same : (k : ℕ) → get_or new k 0 ≡ get_or old k 0) (within : id < length new) where
  pub renewed_within : AllWithin (length new) (spaced distance 0 (insert (ids slots) p id))
  renewed_within =
      let at_cell : (k : ℕ) → 0 < number_of slots k → k < length new = λ k n. within_from_number new k (omega (arith, same k, i.indexed k)) in
      rw (ids-spaced distance 0 (insert (ids slots) p id)) (AllByRecursion-insert (λ k. k < length new) (ids slots) p id within (AllWithin-from_indexed slots (length new) i.numbered.positive at_cell))

  pub renewed_distinct : IsDistinct eqb (insert (ids slots) p id)
  renewed_distinct = IsDistinct-insert (ids slots) p id (new_from_absent slots id absent) i.numbered.distinct

  -- an id with no new number had none
  none_before : (k : ℕ) → number_of (spaced distance 0 (insert (ids slots) p id)) k ≡ 0 → number_of slots k ≡ 0
  none_before k n =
      let xs = insert (ids slots) p id in
      let positive = AllAbove-spaced distance 0 xs apart in
      let gone : Has (spaced distance 0 xs) k → ⊥ = λ h. omega (arith, number_of-above 0 (spaced distance 0 xs) k positive h) in
      let none : IsNew k xs = rw (← ids-spaced distance 0 xs) (new_from_absent (spaced distance 0 xs) k gone) in
      absent_from_new slots k (AllByRecursion-from_insert (λ y. eqb k y ≡ false) (ids slots) p id none)

  agreed : (m old_number got : ℕ) → got ≡ cond (eqb m 0) old_number m → (m ≡ 0 → old_number ≡ 0) → got ≡ m
  agreed m old_number got e h = grind (arith, nat_tests)

  pub indexed_renewed : IsIndexed (written (spaced distance 0 (insert (ids slots) p id)) new) (spaced distance 0 (insert (ids slots) p id))
  indexed_renewed =
      let xs = insert (ids slots) p id in
      let distinct : IsDistinct eqb (ids (spaced distance 0 xs)) = rw (ids-spaced distance 0 xs) renewed_distinct in
      let positive = AllAbove-spaced distance 0 xs apart in
      record {
        numbered = record { distinct = distinct; rising = Rises-spaced distance 0 xs apart; positive = positive };
        indexed = λ k. agreed _ _ _ (get_or-written (spaced distance 0 xs) new k distinct positive renewed_within) (λ n. same k ∙ (i.indexed k ∙ none_before k n));
      }

-- ---- the same, as the calls of the map say it: `entries` is what it held, which is the list `slots`

pub removed : (numbers : List ℕ) (entries slots after : List (ℕ × ℕ)) (number id : ℕ) → IsIndexed numbers entries → entries ≡ slots → Has slots id → number ≡ number_of slots id → id < length numbers → after ≡ remove_entry (is_at (nat_cmp number)) entries → Rises after → (after ≡ remove slots (place id (ids slots))) × IsIndexed (set numbers id 0) after
removed numbers entries slots after number id i same has is within left rises =
    let here : IsIndexed numbers slots = rw (← same) i in
    let gone = ap (remove_entry (is_at (nat_cmp number))) same ∙ (ap (λ n. remove_entry (is_at (nat_cmp n)) slots) is ∙ remove_entry_at slots id here.numbered.rising has) in
    (left ∙ gone, indexed_remove numbers slots after id here within (left ∙ gone) rises)

pub removed_within : (numbers : List ℕ) (entries slots : List (ℕ × ℕ)) (id : ℕ) → IsIndexed numbers entries → entries ≡ slots → Has slots id → id < length numbers
removed_within numbers entries slots id i same has =
    let here : IsIndexed numbers slots = rw (← same) i in
    within_from_number numbers id (omega (arith, here.indexed id, number_of-above 0 slots id here.numbered.positive has))

pub inserted : (old new : List ℕ) (entries slots after : List (ℕ × ℕ)) (behind : Option ℕ) (number id : ℕ) → IsIndexed old entries → entries ≡ slots → IfSome behind (Has slots) → (Has slots id → ⊥) → IsRoom behind slots number → ((k : ℕ) → get_or new k 0 ≡ get_or old k 0) → id < length new → after ≡ insert_entry nat_cmp entries number id → Rises after → (ids after ≡ put_after behind id (ids slots)) × IsIndexed (set new id number) after
inserted old new entries slots after behind number id i same known absent room cells within put rises =
    let here : IsIndexed old slots = rw (← same) i in
    let is = put ∙ (ap (λ es. insert_entry nat_cmp es number id) same ∙ inserted_at_room behind slots number id here.numbered known room) in
    let p = place_after behind (ids slots) in
    (ap ids is ∙ ids-insert slots p number id, indexed_insert old new slots after p number id here absent cells within (omega (arith, room.0)) is rises)

-- all ids in their new order, numbered anew
pub renewed : (distance : ℕ) (old new : List ℕ) (entries slots after : List (ℕ × ℕ)) (order : List ℕ) (behind : Option ℕ) (id : ℕ) → 0 < distance → IsIndexed old entries → entries ≡ slots → (Has slots id → ⊥) → ((k : ℕ) → get_or new k 0 ≡ get_or old k 0) → id < length new → order ≡ put_after behind id (ids slots) → after ≡ spaced distance 0 order → (ids after ≡ put_after behind id (ids slots)) × AllWithin (length new) after × IsIndexed (written after new) after
renewed distance old new entries slots after order behind id apart i same absent cells within ordered is =
    let here : IsIndexed old slots = rw (← same) i in
    let p = place_after behind (ids slots) in
    let all = is ∙ ap (spaced distance 0) ordered in
    let inside : AllWithin (length new) after = rw all (renewed_within distance apart old new slots p id here absent cells within) in
    let kept : IsIndexed (written after new) after = rw all (indexed_renewed distance apart old new slots p id here absent cells within) in
    (ap ids all ∙ ids-spaced distance 0 (put_after behind id (ids slots)), inside, kept)

pub ordered_distinct : (numbers : List ℕ) (entries slots : List (ℕ × ℕ)) (order : List ℕ) (behind : Option ℕ) (id : ℕ) → IsIndexed numbers entries → entries ≡ slots → (Has slots id → ⊥) → order ≡ put_after behind id (ids slots) → IsDistinct eqb order
ordered_distinct numbers entries slots order behind id i same absent ordered =
    let here : IsIndexed numbers slots = rw (← same) i in
    rw ordered (IsDistinct-insert (ids slots) (place_after behind (ids slots)) id (new_from_absent slots id absent) here.numbered.distinct)
