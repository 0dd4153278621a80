-- Statements that tests tell, and chains of steps between numbers below some number.
use Rattle.std.proofs.Common.{◌≡◌, ◌∙◌, ◌⊎◌, inl, inr, ℕ, zero, suc, ◌<◌, Bool, true, false, not, ◌&&◌, ◌||◌, List, refl, sym, subst, arith, eqb-true}
use Rattle.std.specs.Prelude.{nat_eq}
use Rattle.std.specs.List.{list_any}
use Rattle.std.proofs.lemmas.Bool.{eq-eqb}
use Rattle.target_base.proofs.Tests.{first_of_both, second_of_both}
use Rattle.meaning.specs.Live.{Among}
use Rattle.live_lanes.proofs.Cells.{both}
use Rattle.live_laws.proofs.Effects.Lists.{any-in}
use Rattle.live_laws.proofs.Touch.Cells.{any-of, or-left, or-right, or-cases}

-- a test tells whether the statement holds
pub record Told (P : Type 0) : Type 0 where
  pub test : Bool
  pub forth : test ≡ true → P
  pub back : P → test ≡ true

pub told-by : {P Q : Type 0} → (P → Q) → (Q → P) → Told P → Told Q
told-by f g z = record { test = z.test; forth = λ e. f (z.forth e); back = λ q. z.back (g q) }

pub told-no : {P : Type 0} → (P → ⊥) → Told P
told-no n = record { test = false; forth = λ e. absurd (let z : false ≡ true = e in cc); back = λ p. absurd (n p) }

pub told-true : (b : Bool) → Told (b ≡ true)
told-true b = record { test = b; forth = λ e. e; back = λ e. e }

pub told-number : (n m : ℕ) → Told (n ≡ m)
told-number n m = record { test = nat_eq n m; forth = eqb-true n m; back = eq-eqb n m }

pub told-not : {P : Type 0} → Told P → Told (P → ⊥)
told-not z = record { test = not z.test; forth = λ e p. go z.test e (z.back p); back = λ n. by z.test (λ e. n (z.forth e)) }
  where
    go : (b : Bool) → not b ≡ true → b ≡ true → ⊥
    go true e h = let y : false ≡ true = e in cc
    go false e h = let y : false ≡ true = h in cc

    by : (b : Bool) → (b ≡ true → ⊥) → not b ≡ true
    by true n = absurd (n refl)
    by false n = refl

pub told-both : {P Q : Type 0} → Told P → Told Q → Told (P × Q)
told-both x y = record {
  test = x.test && y.test;
  forth = λ e. (x.forth (first_of_both x.test y.test e), y.forth (second_of_both x.test y.test e));
  back = λ h. both x.test y.test (x.back h.0) (y.back h.1);
}

pub told-either : {P Q : Type 0} → Told P → Told Q → Told (P ⊎ Q)
told-either {P} {Q} x y = record { test = x.test || y.test; forth = λ e. go (or-cases x.test y.test e); back = by }
  where
    go : (x.test ≡ true) ⊎ (y.test ≡ true) → P ⊎ Q
    go (inl e) = inl (x.forth e)
    go (inr e) = inr (y.forth e)

    by : P ⊎ Q → (x.test || y.test) ≡ true
    by (inl p) = or-left x.test y.test (x.back p)
    by (inr q) = or-right x.test y.test (y.back q)

pub told-some : {X : Type 0} (P : X → Type 0) → ((x : X) → Told (P x)) → (xs : List X) → Told ((x : X) × Among x xs × P x)
told-some P k xs = record {
  test = list_any (λ x. (k x).test) xs;
  forth = λ e. let z = any-of (λ x. (k x).test) xs e in (z.0, z.1, (k z.0).forth z.2);
  back = λ h. any-in (λ x. (k x).test) h.0 xs h.1 ((k h.0).back h.2);
}

-- steps, one after the other
pub data Chain (S : ℕ → ℕ → Type 0) : ℕ → ℕ → Type 0 where
  one : {p q : ℕ} → S p q → Chain S p q
  more : {p m q : ℕ} → S p m → Chain S m q → Chain S p q

module _ (S : ℕ → ℕ → Type 0) (told : (p q : ℕ) → Told (S p q)) where
  -- a chain whose numbers between its ends are below k
  abbrev link : ℕ → ℕ → ℕ → Bool
  link zero p q = (told p q).test
  link (suc k) p q = link k p q || (link k p k && link k k q)

  joined : {p m q : ℕ} → Chain S p m → Chain S m q → Chain S p q
  joined (one s) c = more s c
  joined (more s d) c = more s (joined d c)

  link-chain : (k p q : ℕ) → link k p q ≡ true → Chain S p q
  link-chain zero p q e = one ((told p q).forth e)
  link-chain (suc k) p q e = go (or-cases (link k p q) (link k p k && link k k q) e) (link-chain k)
    where
      go : (link k p q ≡ true) ⊎ ((link k p k && link k k q) ≡ true) → ((m n : ℕ) → link k m n ≡ true → Chain S m n) → Chain S p q
      go (inl h) ih = ih p q h
      go (inr h) ih = joined (ih p k (first_of_both (link k p k) (link k k q) h)) (ih k q (second_of_both (link k p k) (link k k q) h))

  step-link : (k p q : ℕ) → S p q → link k p q ≡ true
  step-link zero p q s = (told p q).back s
  step-link (suc k) p q s = or-left (link k p q) (link k p k && link k k q) (step-link k p q s)

  -- chains below k are joined at a number below k
  abbrev By : ℕ → Type 0
  By k = (x y z : ℕ) → y < k → link k x y ≡ true → link k y z ≡ true → link k x z ≡ true

  link-by : (k p m q : ℕ) → m < k → link k p m ≡ true → link k m q ≡ true → link k p q ≡ true
  link-by zero p m q h a b = absurd (omega (arith, h))
  link-by (suc k) p m q h a b = go (nat_eq m k) refl (link-by k)
    where
      to : (m ≡ k) → link k p k ≡ true
      to e = by (or-cases (link k p k) (link k p k && link k k k) (subst (λ n. link (suc k) p n ≡ true) e a))
        where
          by : (link k p k ≡ true) ⊎ ((link k p k && link k k k) ≡ true) → link k p k ≡ true
          by (inl z) = z
          by (inr z) = first_of_both (link k p k) (link k k k) z

      from : (m ≡ k) → link k k q ≡ true
      from e = by (or-cases (link k k q) (link k k k && link k k q) (subst (λ n. link (suc k) n q ≡ true) e b))
        where
          by : (link k k q ≡ true) ⊎ ((link k k k && link k k q) ≡ true) → link k k q ≡ true
          by (inl z) = z
          by (inr z) = second_of_both (link k k k) (link k k q) z

      through : link k p k ≡ true → link k k q ≡ true → link (suc k) p q ≡ true
      through x y = or-right (link k p q) (link k p k && link k k q) (both (link k p k) (link k k q) x y)

      below : By k → m < k → (link k p m ≡ true) ⊎ ((link k p k && link k k m) ≡ true) → (link k m q ≡ true) ⊎ ((link k m k && link k k q) ≡ true) → link (suc k) p q ≡ true
      below ih n (inl x) (inl y) = or-left (link k p q) (link k p k && link k k q) (ih p m q n x y)
      below ih n (inl x) (inr y) = through (ih p m k n x (first_of_both (link k m k) (link k k q) y)) (second_of_both (link k m k) (link k k q) y)
      below ih n (inr x) (inl y) = through (first_of_both (link k p k) (link k k m) x) (ih k m q n (second_of_both (link k p k) (link k k m) x) y)
      below ih n (inr x) (inr y) = through (first_of_both (link k p k) (link k k m) x) (second_of_both (link k m k) (link k k q) y)

      go : (u : Bool) → nat_eq m k ≡ u → By k → link (suc k) p q ≡ true
      go true e ih = through (to (eqb-true m k e)) (from (eqb-true m k e))
      go false e ih = below ih (smaller m k h (λ f. let z : true ≡ false = sym (eq-eqb m k f) ∙ e in cc)) (or-cases (link k p m) (link k p k && link k k m) a) (or-cases (link k m q) (link k m k && link k k q) b)
        where
          smaller : (m k : ℕ) → m < suc k → (m ≡ k → ⊥) → m < k
          smaller m k h n = omega (arith, h, n)

  chain-link : (k : ℕ) → ((p q : ℕ) → S p q → q < k) → {p q : ℕ} → Chain S p q → link k p q ≡ true
  chain-link k bound (one {p} {q} s) = step-link k p q s
  chain-link k bound (more {p} {m} {q} s c) = link-by k p m q (bound p m s) (step-link k p m s) (chain-link k bound c)

  pub told-chain : (k : ℕ) → ((p q : ℕ) → S p q → q < k) → (p q : ℕ) → Told (Chain S p q)
  told-chain k bound p q = record { test = link k p q; forth = link-chain k p q; back = λ c. chain-link k bound c }
