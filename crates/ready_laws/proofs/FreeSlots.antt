-- The least free number isn't among the others.
use Rattle.std.proofs.Common.{◌≡◌, ⊎_elim, ◌<◌, ◌≤◌, ◌+◌, ℕ, zero, suc, Bool, true, false, cond, not, List, length, refl, subst, arith}
use Rattle.std.specs.Prelude.{find, Option, Some, None}
use Rattle.std.proofs.Math.Nat.{eq-or-lt_of_le}
use Rattle.std.proofs.lemmas.Map.Steps.{le-length_from_below}
use Rattle.mir_meaning.specs.Registers.{numbers, has_number}
use Rattle.spiller.specs.Slots.{least_free}

found-passes : (p : ℕ → Bool) (a k m : ℕ) → find p (numbers a k) ≡ Some m → p m ≡ true
found-passes p a zero m e = absurd (let z : None ≡ Some m = e in cc)
found-passes p a (suc k) m e = go (p a) refl e (found-passes p (suc a) k m)
  where
    go : (b : Bool) → p a ≡ b → cond b (Some a) (find p (numbers (suc a) k)) ≡ Some m → (find p (numbers (suc a) k) ≡ Some m → p m ≡ true) → p m ≡ true
    go true t e ih = let same : a ≡ m = cc in subst (λ n. p n ≡ true) same t
    go false f e ih = ih e

none-passes : (p : ℕ → Bool) (a k : ℕ) → find p (numbers a k) ≡ None → (q : ℕ) → a ≤ q → q < a + k → p q ≡ false
none-passes p a zero e q lo hi = absurd (omega arith)
none-passes p a (suc k) e q lo hi = go (p a) refl e (none-passes p (suc a) k)
  where
    go : (b : Bool) → p a ≡ b → cond b (Some a) (find p (numbers (suc a) k)) ≡ None → (find p (numbers (suc a) k) ≡ None → (q : ℕ) → suc a ≤ q → q < suc a + k → p q ≡ false) → p q ≡ false
    go true t e ih = absurd (let z : Some a ≡ None = e in cc)
    go false f e ih = ⊎_elim (λ s. subst (λ n. p n ≡ false) s f) (λ s. ih e q (omega arith) (omega arith)) (eq-or-lt_of_le lo)

has-not : (b : Bool) → not b ≡ false → b ≡ true
has-not true e = refl
has-not false e = absurd (let z : true ≡ false = e in cc)

not-has : (b : Bool) → not b ≡ true → b ≡ false
not-has true e = absurd (let z : false ≡ true = e in cc)
not-has false e = refl

pub free : (ns : List ℕ) → has_number ns (least_free ns) ≡ false
free ns = go (find (λ n. not (has_number ns n)) (numbers 0 (suc (length ns)))) refl
  where
    go : (r : Option ℕ) → find (λ n. not (has_number ns n)) (numbers 0 (suc (length ns))) ≡ r → has_number ns (elim r as (λ r. ℕ) [ None ↦ length ns | Some n ↦ n ]) ≡ false
    go None e =
        let each = λ (q : ℕ) (h : q < suc (length ns)). has-not (has_number ns q) (none-passes (λ n. not (has_number ns n)) 0 (suc (length ns)) e q (omega arith) (omega arith)) in
        absurd (let long = le-length_from_below ns (suc (length ns)) each in omega arith)
    go (Some m) e = not-has (has_number ns m) (found-passes (λ n. not (has_number ns n)) 0 (suc (length ns)) m e)
