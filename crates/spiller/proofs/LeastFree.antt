-- The least number that isn't among others.
use Rattle.std.proofs.Common.{◌≡◌, ⊎_elim, ◌∙◌, ◌<◌, ◌≤◌, ◌+◌, ℕ, zero, suc, Bool, true, false, ◌||◌, cond, not, List, ◌++◌, length, length-append, refl, sym, ap, subst, arith}
use Rattle.std.specs.Prelude.{nat_eq, find, Option, Some, None}
use Rattle.std.proofs.Math.Nat.{eq-or-lt_of_le}
use Rattle.std.proofs.lemmas.Bool.{cases_lt, cases_order}
use Rattle.std.proofs.lemmas.List.{length-map}
use Rattle.std.proofs.lemmas.List.Folds.{list_any-append}
use Rattle.std.proofs.lemmas.Map.Steps.{le-length_from_below}
use Rattle.mir_meaning.specs.Registers.{numbers, has_number}
use Rattle.live_lanes.proofs.Certain.{not-true, not-false}
use Rattle.spiller.specs.Slots.{Slots, given_numbers, least_free, next_slot, HasFreeSlot}

-- what a search of the numbers finds

found-passes : (p : ℕ → Bool) (a k m : ℕ) → find p (numbers a k) ≡ Some m → (p m ≡ true) × (m < a + k) × ((q : ℕ) → a ≤ q → q < m → p q ≡ false)
found-passes p a zero m e = absurd (let z : None ≡ Some m = e in cc)
found-passes p a (suc k) m e = go (p a) refl e (found-passes p (suc a) k m)
  where
    go : (b : Bool) → p a ≡ b → cond b (Some a) (find p (numbers (suc a) k)) ≡ Some m → (find p (numbers (suc a) k) ≡ Some m → (p m ≡ true) × (m < suc a + k) × ((q : ℕ) → suc a ≤ q → q < m → p q ≡ false)) → (p m ≡ true) × (m < a + suc k) × ((q : ℕ) → a ≤ q → q < m → p q ≡ false)
    go true t e ih = let same : a ≡ m = cc in (subst (λ n. p n ≡ true) same t, omega arith, λ q lo hi. absurd (omega arith))
    go false f e ih =
        let r = ih e in
        (r.0, (let l = r.1 in omega arith), λ q lo hi. ⊎_elim (λ s. subst (λ n. p n ≡ false) s f) (λ s. r.2 q (omega arith) hi) (eq-or-lt_of_le lo))

none-passes : (p : ℕ → Bool) (a k : ℕ) → find p (numbers a k) ≡ None → (q : ℕ) → a ≤ q → q < a + k → p q ≡ false
none-passes p a zero e q lo hi = absurd (omega arith)
none-passes p a (suc k) e q lo hi = go (p a) refl e (none-passes p (suc a) k)
  where
    go : (b : Bool) → p a ≡ b → cond b (Some a) (find p (numbers (suc a) k)) ≡ None → (find p (numbers (suc a) k) ≡ None → (q : ℕ) → suc a ≤ q → q < suc a + k → p q ≡ false) → p q ≡ false
    go true t e ih = absurd (let z : Some a ≡ None = e in cc)
    go false f e ih = ⊎_elim (λ s. subst (λ n. p n ≡ false) s f) (λ s. ih e q (omega arith) (omega arith)) (eq-or-lt_of_le lo)

-- each number below the least free one is there, and it isn't
pub free-least : (ns : List ℕ) → ((q : ℕ) → q < least_free ns → has_number ns q ≡ true) × (has_number ns (least_free ns) ≡ false) × (least_free ns ≤ length ns)
free-least ns = go (find (λ n. not (has_number ns n)) (numbers 0 (suc (length ns)))) refl
  where
    go : (r : Option ℕ) → find (λ n. not (has_number ns n)) (numbers 0 (suc (length ns))) ≡ r
        → let l = elim r as (λ r. ℕ) [ None ↦ length ns | Some n ↦ n ] in ((q : ℕ) → q < l → has_number ns q ≡ true) × (has_number ns l ≡ false) × (l ≤ length ns)
    go None e =
        let each = λ (q : ℕ) (h : q < suc (length ns)). not-false (has_number ns q) (none-passes (λ n. not (has_number ns n)) 0 (suc (length ns)) e q (omega arith) (omega arith)) in
        absurd (let long = le-length_from_below ns (suc (length ns)) each in omega arith)
    go (Some m) e =
        let r = found-passes (λ n. not (has_number ns n)) 0 (suc (length ns)) m e in
        (λ q h. not-false (has_number ns q) (r.2 q (omega arith) h), not-true (has_number ns m) r.0, let l = r.1 in omega arith)

-- a number that isn't there, while all below it are, is the least free one
pub free-is : (ns : List ℕ) (m : ℕ) → ((q : ℕ) → q < m → has_number ns q ≡ true) → has_number ns m ≡ false → m ≡ least_free ns
free-is ns m below at =
    let l = free-least ns in
    let low : (least_free ns < m) → ⊥ = λ h. (let z : true ≡ false = sym (below (least_free ns) h) ∙ l.1 in cc) in
    let high : (m < least_free ns) → ⊥ = λ h. (let z : true ≡ false = sym (l.0 m h) ∙ at in cc) in
    ⊎_elim (λ e. e) (λ h. absurd (⊎_elim (λ a. high a) (λ a. low a) h)) (cases_order m (least_free ns))

-- where all below a number are there, the least free one is no smaller
pub free-from : (ns : List ℕ) (m : ℕ) → ((q : ℕ) → q < m → has_number ns q ≡ true) → m ≤ least_free ns
free-from ns m below =
    let l = free-least ns in
    ⊎_elim (λ h. absurd (let z : true ≡ false = sym (below (least_free ns) h) ∙ l.1 in cc)) (λ h. h) (cases_lt (least_free ns) m)

-- it depends only on which numbers are there
pub free-same : (ms ns : List ℕ) → ((q : ℕ) → has_number ms q ≡ has_number ns q) → least_free ms ≡ least_free ns
free-same ms ns same =
    let l = free-least ms in
    free-is ns (least_free ms) (λ q h. sym (same q) ∙ l.0 q h) (sym (same (least_free ms)) ∙ l.1)

-- with fewer than 2 ^ 32 numbers named and given there is a free slot
pub free-few : (s : Slots) (named : List ℕ) → ((n : ℕ) → has_number s.taken n ≡ has_number named n) → length named + length s.given < 4294967296 → HasFreeSlot s
free-few s named same few =
    let numbers = given_numbers s.given in
    let each = λ (n : ℕ). list_any-append (nat_eq n) s.taken numbers ∙ ap (λ b. b || has_number numbers n) (same n) ∙ sym (list_any-append (nat_eq n) named numbers) in
    let e : next_slot s ≡ least_free (named ++ numbers) = free-same (s.taken ++ numbers) (named ++ numbers) each in
    let l = (free-least (named ++ numbers)).2 in
    let long : length (named ++ numbers) ≡ length named + length s.given = length-append named numbers ∙ ap (λ k. length named + k) (length-map s.given (λ (p : ℕ × ℕ). p.1)) in
    omega arith
