-- Originals of ranges, and the slots that they were given.
use Rattle.std.proofs.Common.{◌≡◌, ◌<◌, ◌+◌, ◌⊎◌, inl, inr, ◌++◌, ◌∙◌, ℕ, zero, suc, Bool, true, false, cond, List, [], ◌∷◌, Option, Some, None, length, replicate, refl, sym, ap, subst, arith, eqb-true, eq-eqb}
use Rattle.std.specs.Prelude.{nat_eq, ◌==◌, ◌||◌, find, option_map, slice_get}
use Rattle.std.proofs.lemmas.List.Folds.{list_any-append}
use Rattle.meaning.specs.Live.{Among as Member, here as first, there as later}
use Rattle.mir_meaning.specs.Registers.{has_number, numbers}
use Rattle.instr_effects.proofs.Members.{map-in, member-elim, member-none}
use Rattle.instr_effects.proofs.Tables.{slice-left, slice-right}
use Rattle.live_laws.proofs.Effects.Blocks.{slice-member}
use Rattle.spiller.specs.Slots.{Slots, given_numbers, next_slot, original_of, own_slot, slot_among, slot_of}
use Rattle.spiller.proofs.LeastFree.{free-least}

-- lists by their places

pub get-some : {X : Type 0} (xs : List X) (k : ℕ) → k < length xs → (x : X) × (slice_get xs k ≡ Some x)
get-some [] k h = absurd (omega arith)
get-some (x ∷ xs) zero h = (x, refl)
get-some (x ∷ xs) (suc k) h = get-some xs k (omega arith)

pub get-replicate : {X : Type 0} (n : ℕ) (x : X) (k : ℕ) → k < n → slice_get (replicate n x) k ≡ Some x
get-replicate zero x k h = absurd (omega arith)
get-replicate (suc n) x zero h = refl
get-replicate (suc n) x (suc k) h = get-replicate n x k (omega arith)

pub get-numbers : (a n k : ℕ) → k < n → slice_get (numbers a n) k ≡ Some (a + k)
get-numbers a zero k h = absurd (omega arith)
get-numbers a (suc n) zero h = let e : a ≡ a + 0 = omega arith in ap Some e
get-numbers a (suc n) (suc k) h = let e : suc a + k ≡ a + suc k = omega arith in get-numbers (suc a) n k (omega arith) ∙ ap Some e

pub length-numbers : (a n : ℕ) → length (numbers a n) ≡ n
length-numbers a zero = refl
length-numbers a (suc n) = let e = length-numbers (suc a) n in omega (arith, e)

pub number-below : (a n k : ℕ) → Member k (numbers a n) → k < a + n
number-below a zero k m = absurd (member-none k m)
number-below a (suc n) k m = member-elim k a (numbers (suc a) n) (λ e. omega (arith, e)) (λ j. let h = number-below (suc a) n k j in omega (arith, h)) m

pub same-of : {X : Type 0} (n : ℕ) (x y : X) → Member y (replicate n x) → y ≡ x
same-of zero x y m = absurd (member-none y m)
same-of (suc n) x y m = member-elim y x (replicate n x) (λ e. e) (λ k. same-of n x y k) m

-- originals

pub original-is : (s : Slots) (v o : ℕ) → slice_get s.originals v ≡ Some o → original_of s v ≡ o
original-is s v o e = ap (λ (r : Option ℕ). elim r as (λ r. ℕ) [ None ↦ v | Some x ↦ x ]) e

pub original-in : (s : Slots) (v : ℕ) → v < length s.originals → Member (original_of s v) s.originals
original-in s v h =
    let z = get-some s.originals v h in
    subst (λ o. Member o s.originals) (sym (original-is s v z.0 z.1)) (slice-member s.originals v z.0 z.1)

-- further originals behind
pub original-old : (s r : Slots) (more : List ℕ) → r.originals ≡ s.originals ++ more → (v : ℕ) → v < length s.originals → original_of r v ≡ original_of s v
original-old s r more e v h =
    let z = get-some s.originals v h in
    original-is r v z.0 (ap (λ os. slice_get os v) e ∙ slice-left s.originals more v z.0 z.1) ∙ sym (original-is s v z.0 z.1)

pub original-further : (s r : Slots) (more : List ℕ) → r.originals ≡ s.originals ++ more → (k o : ℕ) → slice_get more k ≡ Some o → original_of r (length s.originals + k) ≡ o
original-further s r more e k o g = original-is r (length s.originals + k) o (ap (λ os. slice_get os (length s.originals + k)) e ∙ (slice-right s.originals more k ∙ g))

-- slots of originals

pub slot-given : (given : List (ℕ × ℕ)) (o n : ℕ) → slot_among given o ≡ Some n → (x : ℕ × ℕ) × Member x given × (x.0 ≡ o) × (x.1 ≡ n)
slot-given [] o n e = absurd (cc)
slot-given (g ∷ given) o n e = go (g.0 == o) refl e (slot-given given o n)
  where
    some-same : (a b : ℕ) → Some a ≡ Some b → a ≡ b
    some-same a b e = cc

    go : (b : Bool) → (g.0 == o) ≡ b → option_map (λ (p : ℕ × ℕ). p.1) (cond b (Some g) (find (λ (p : ℕ × ℕ). p.0 == o) given)) ≡ Some n → (slot_among given o ≡ Some n → (x : ℕ × ℕ) × Member x given × (x.0 ≡ o) × (x.1 ≡ n)) → (x : ℕ × ℕ) × Member x (g ∷ given) × (x.0 ≡ o) × (x.1 ≡ n)
    go true t h ih = (g, first, eqb-true g.0 o t, some-same g.1 n h)
    go false t h ih = let z = ih h in (z.0, later z.1, z.2, z.3)

-- by whether it was given before, or is the last
pub slot-either : (given : List (ℕ × ℕ)) (a m o n : ℕ) → slot_among (given ++ (a, m) ∷ []) o ≡ Some n → (slot_among given o ≡ Some n) ⊎ ((o ≡ a) × (n ≡ m))
slot-either [] a m o n e = go (a == o) refl e
  where
    some-same : (a b : ℕ) → Some a ≡ Some b → a ≡ b
    some-same a b e = cc

    go : (b : Bool) → (a == o) ≡ b → option_map (λ (p : ℕ × ℕ). p.1) (cond b (Some (a, m)) None) ≡ Some n → (slot_among [] o ≡ Some n) ⊎ ((o ≡ a) × (n ≡ m))
    go true t h = inr (sym (eqb-true a o t), some-same n m (sym h))
    go false t h = absurd (cc)
slot-either (g ∷ given) a m o n e = go (g.0 == o) e (slot-either given a m o n)
  where
    go : (b : Bool) → option_map (λ (p : ℕ × ℕ). p.1) (cond b (Some g) (find (λ (p : ℕ × ℕ). p.0 == o) (given ++ (a, m) ∷ []))) ≡ Some n → (slot_among (given ++ (a, m) ∷ []) o ≡ Some n → (slot_among given o ≡ Some n) ⊎ ((o ≡ a) × (n ≡ m))) → (option_map (λ (p : ℕ × ℕ). p.1) (cond b (Some g) (find (λ (p : ℕ × ℕ). p.0 == o) given)) ≡ Some n) ⊎ ((o ≡ a) × (n ≡ m))
    go true h ih = inl h
    go false h ih = ih h

-- numbers of slots

pub or-true : (b : Bool) → (b || true) ≡ true
or-true true = refl
or-true false = refl

pub member-number : (ns : List ℕ) (n : ℕ) → Member n ns → has_number ns n ≡ true
member-number [] n m = absurd (member-none n m)
member-number (k ∷ ns) n m =
    member-elim n k ns
    (λ e. ap (λ b. b || has_number ns n) (eq-eqb n k e))
    (λ j. ap (λ b. nat_eq n k || b) (member-number ns n j) ∙ or-true (nat_eq n k)) m

pub given-number : (s : Slots) (x : ℕ × ℕ) → Member x s.given → has_number (given_numbers s.given) x.1 ≡ true
given-number s x m = member-number (given_numbers s.given) x.1 (map-in (λ (p : ℕ × ℕ). p.1) x s.given m)

not-second : (ms ns : List ℕ) (n : ℕ) → has_number (ms ++ ns) n ≡ false → has_number ns n ≡ false
not-second ms ns n h = go (has_number ms n) (has_number ns n) (sym (list_any-append (nat_eq n) ms ns) ∙ h)
  where
    go : (a b : Bool) → (a || b) ≡ false → b ≡ false
    go a false e = refl
    go true true e = absurd (cc)
    go false true e = absurd (cc)

-- the next slot wasn't given
pub next-free : (s : Slots) → has_number (given_numbers s.given) (next_slot s) ≡ false
next-free s = not-second s.taken (given_numbers s.given) (next_slot s) (free-least (s.taken ++ given_numbers s.given)).1

pub next-other : (s : Slots) (x : ℕ × ℕ) → Member x s.given → x.1 ≡ next_slot s → ⊥
next-other s x m e =
    let z : true ≡ false = sym (given-number s x m) ∙ (ap (has_number (given_numbers s.given)) e ∙ next-free s) in
    cc

pub own-given : (s : Slots) (v n : ℕ) → slot_of s v ≡ Some n → own_slot s v ≡ n
own-given s v n e = ap (λ (r : Option ℕ). elim r as (λ r. ℕ) [ None ↦ next_slot s | Some m ↦ m ]) e

pub own-next : (s : Slots) (v : ℕ) → slot_of s v ≡ None → own_slot s v ≡ next_slot s
own-next s v e = ap (λ (r : Option ℕ). elim r as (λ r. ℕ) [ None ↦ next_slot s | Some m ↦ m ]) e
