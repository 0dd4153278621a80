-- The slots that were given: what one more changes.
use Rattle.std.proofs.Common.{◌≡◌, ⊎_elim, ◌∙◌, ◌<◌, ◌≤◌, ◌+◌, min, ℕ, Bool, true, false, cond, List, [], ◌∷◌, ◌++◌, length, refl, sym, ap, eqb-true, eq-eqb, append_assoc, arith}
use Rattle.std.specs.Prelude.{nat_eq, ◌==◌, ◌||◌, find, option_map, Option, Some, None}
use Rattle.std.specs.Option.{option_or}
use Rattle.std.proofs.Math.Bool.{or-false}
use Rattle.std.proofs.lemmas.Bool.{cases_lt, cases_order, or_cases}
use Rattle.std.proofs.lemmas.List.{map-append}
use Rattle.std.proofs.lemmas.List.Folds.{find-append, list_any-append}
use Rattle.mir_meaning.specs.Registers.{has_number}
use Rattle.spiller.specs.declared.slot_map.RangeSlot.{RangeSlot}
use Rattle.spiller.specs.Slots.{Slots, slot_among, given_numbers, least_free, next_slot, original_of, slot_of, own_slot, with_slot, with_ranges, with_original}
use Rattle.spiller.specs.RangeSlots.{pairs_of}
use Rattle.spiller.proofs.LeastFree.{free-is, free-from}

-- a slot is given to an original that has none
pub slot-more : (given : List (ℕ × ℕ)) (o n q : ℕ) → slot_among given o ≡ None → slot_among (given ++ (o, n) ∷ []) q ≡ cond (nat_eq o q) (Some n) (slot_among given q)
slot-more given o n q none = ap (option_map (λ (p : ℕ × ℕ). p.1)) (find-append (λ (p : ℕ × ℕ). p.0 == q) given ((o, n) ∷ [])) ∙ go (o == q) refl (find (λ (p : ℕ × ℕ). p.0 == q) given) refl
  where
    go : (b : Bool) → (o == q) ≡ b → (r : Option (ℕ × ℕ)) → find (λ (p : ℕ × ℕ). p.0 == q) given ≡ r → option_map (λ (p : ℕ × ℕ). p.1) (option_or r (cond b (Some (o, n)) None)) ≡ cond b (Some n) (option_map (λ (p : ℕ × ℕ). p.1) r)
    go true t None e = refl
    go true t (Some p) e =
        let z : Some p.1 ≡ None = sym (ap (option_map (λ (p : ℕ × ℕ). p.1)) e) ∙ ap (slot_among given) (sym (eqb-true o q t)) ∙ none in
        absurd (cc)
    go false f None e = refl
    go false f (Some p) e = refl

pub pairs-more : (given new : List RangeSlot) (s : RangeSlot) → new ≡ given ++ s ∷ [] → pairs_of new ≡ pairs_of given ++ (s.original, s.number) ∷ []
pairs-more given new s e = ap pairs_of e ∙ map-append (λ (s : RangeSlot). (s.original, s.number)) given (s ∷ [])

pub numbers-more : (given new : List RangeSlot) (s : RangeSlot) → new ≡ given ++ s ∷ [] → given_numbers (pairs_of new) ≡ given_numbers (pairs_of given) ++ s.number ∷ []
numbers-more given new s e = ap given_numbers (pairs-more given new s e) ∙ map-append (λ (p : ℕ × ℕ). p.1) (pairs_of given) ((s.original, s.number) ∷ [])

-- the next slot, as a map keeps it: the least number that is neither taken nor given, or the last of 32 bits
pub next-is : (taken given : List ℕ) (next : ℕ)
    → ((n : ℕ) → n < next → has_number (taken ++ given) n ≡ true)
    → (next < 4294967295 → has_number taken next ≡ false)
    → ((n : ℕ) → next < 4294967295 → has_number given n ≡ true → n < next)
    → least_free (taken ++ given) < 4294967296
    → next ≡ least_free (taken ++ given)
next-is taken given next below free last fits = ⊎_elim least greatest (cases_lt next 4294967295)
  where
    least : next < 4294967295 → next ≡ least_free (taken ++ given)
    least h = free-is (taken ++ given) next below (list_any-append (nat_eq next) taken given ∙ ap (λ b. b || has_number given next) (free h) ∙ not-given (has_number given next) refl)
      where
        not-given : (b : Bool) → has_number given next ≡ b → b ≡ false
        not-given true e = absurd (let l = last next h e in omega arith)
        not-given false e = refl

    greatest : 4294967295 ≤ next → next ≡ least_free (taken ++ given)
    greatest h = let l = free-from (taken ++ given) next below in omega arith

-- after it is given, the next one is looked for behind it

has-end : (ms : List ℕ) (m : ℕ) → has_number (ms ++ m ∷ []) m ≡ true
has-end ms m = list_any-append (nat_eq m) ms (m ∷ []) ∙ ap (λ b. has_number ms m || (b || false)) (eq-eqb m m refl) ∙ or-true (has_number ms m)
  where
    or-true : (b : Bool) → (b || true) ≡ true
    or-true true = refl
    or-true false = refl

has-front : (ms ns : List ℕ) (n : ℕ) → has_number ms n ≡ true → has_number (ms ++ ns) n ≡ true
has-front ms ns n h = list_any-append (nat_eq n) ms ns ∙ ap (λ b. b || has_number ns n) h

module _ (taken given : List ℕ) (next new : ℕ) (from : min (next + 1) 4294967295 ≤ new) (fits : new < 4294967296) where
  pub below-more : ((n : ℕ) → n < next → has_number (taken ++ given) n ≡ true) → ((n : ℕ) → min (next + 1) 4294967295 ≤ n → n < new → has_number taken n ≡ true) → (n : ℕ) → n < new → has_number (taken ++ (given ++ next ∷ [])) n ≡ true
  below-more below between n h = ⊎_elim same (λ s. ⊎_elim lower higher s) (cases_order n next)
    where
      regrouped : has_number ((taken ++ given) ++ next ∷ []) n ≡ true → has_number (taken ++ (given ++ next ∷ [])) n ≡ true
      regrouped e = ap (λ ns. has_number ns n) (sym (append_assoc taken given (next ∷ []))) ∙ e

      same : n ≡ next → has_number (taken ++ (given ++ next ∷ [])) n ≡ true
      same e = regrouped (ap (λ m. has_number ((taken ++ given) ++ next ∷ []) m) e ∙ has-end (taken ++ given) next)

      lower : n < next → has_number (taken ++ (given ++ next ∷ [])) n ≡ true
      lower s = regrouped (has-front (taken ++ given) (next ∷ []) n (below n s))

      higher : next < n → has_number (taken ++ (given ++ next ∷ [])) n ≡ true
      higher s = has-front taken (given ++ next ∷ []) n (between n (omega arith) h)

  pub given-more : ((n : ℕ) → next < 4294967295 → has_number given n ≡ true → n < next) → (n : ℕ) → new < 4294967295 → has_number (given ++ next ∷ []) n ≡ true → n < new
  given-more last n small h = ⊎_elim before at (or_cases (has_number given n) (has_number (next ∷ []) n) (sym (list_any-append (nat_eq n) given (next ∷ [])) ∙ h))
    where
      before : has_number given n ≡ true → n < new
      before e = let l = last n (omega arith) e in omega arith

      at : has_number (next ∷ []) n ≡ true → n < new
      at e = let s : n ≡ next = eqb-true n next (sym (or-false (nat_eq n next)) ∙ e) in omega arith

-- what the definition says of a range that has a slot, and of one that has none

pub own-kept : (s : Slots) (v n : ℕ) → slot_of s v ≡ Some n → n ≡ own_slot s v
own-kept s v n e = sym (ap (λ (r : Option ℕ). elim r as (λ r. ℕ) [ None ↦ next_slot s | Some m ↦ m ]) e)

pub own-new : (s : Slots) (v n : ℕ) → slot_of s v ≡ None → n ≡ next_slot s → n ≡ own_slot s v
own-new s v n e is = is ∙ sym (ap (λ (r : Option ℕ). elim r as (λ r. ℕ) [ None ↦ next_slot s | Some m ↦ m ]) e)

pub with-new : (s : Slots) (v o n : ℕ) (given : List (ℕ × ℕ)) → slot_of s v ≡ None → o ≡ original_of s v → n ≡ own_slot s v → given ≡ s.given ++ (o, n) ∷ [] → record { originals = s.originals; given = given; taken = s.taken } ≡ with_slot s v
with-new s v o n given none original own e =
    let after : List (ℕ × ℕ) → Slots = λ g. record { originals = s.originals; given = g; taken = s.taken } in
    let same : (o, n) ≡ (original_of s v, own_slot s v) = cc in
    ap after (e ∙ ap (λ (p : ℕ × ℕ). s.given ++ p ∷ []) same)
    ∙ sym (ap (λ (r : Option ℕ). elim r as (λ r. Slots) [ None ↦ record s { given = s.given ++ ((original_of s v, own_slot s v) ∷ []) } | Some m ↦ s ]) none)

-- the next range is its own original
pub with-next : (s : Slots) → with_original s (length s.originals) (length s.originals) ≡ with_ranges s 1
with-next s = ap (λ b. cond b (with_ranges s 1) s) (eq-eqb (length s.originals) (length s.originals) refl)
