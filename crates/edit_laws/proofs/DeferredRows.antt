-- Worked rows: edits of a small function, of which one is erased first and goes last.
use Rattle.std.proofs.Common.{◌≡◌, ◌∷◌, ℕ, Bool, true, false, cond, [], Some, refl, sym, eqb-true, arith}
use Rattle.std.specs.Prelude.{◌≢◌, nat_eq}
use Rattle.mir_meaning.specs.Paths.{has}
use Rattle.edit_laws.specs.DeferredRows.{DeferredMake, PutsSpare}

pub deferred-make : DeferredMake
deferred-make = (refl, refl, refl, refl)

three : (id : ℕ) → has id (3 ∷ []) ≡ true → 3 ≡ id
three id h = go (nat_eq 3 id) refl h
  where
    go : (u : Bool) → nat_eq 3 id ≡ u → cond u true false ≡ true → 3 ≡ id
    go true e k = eqb-true 3 id e
    go false e k = absurd (let z : false ≡ true = k in cc)

three-four : (a b : ℕ) → a ≡ 3 → b ≡ 4 → Some a ≡ Some b → ⊥
three-four a b p q e = let x : a ≡ b = cc in omega (arith, x, p, q)

three-six : (a b : ℕ) → a ≡ 3 → b ≡ 6 → a ≡ b → ⊥
three-six a b p q e = omega (arith, e, p, q)

spared : (id : ℕ) → 3 ≡ id → (id ≢ 6) × (Some id ≢ Some 4)
spared id e = (λ h. three-six id 6 (sym e) refl h, λ h. three-four id 4 (sym e) refl h)

pub puts-spare : PutsSpare
puts-spare = (
  (λ id h. tt, (λ id h. spared id (three id h), tt)),
  (λ s. (s.1.0 3 refl).1 refl),
)
