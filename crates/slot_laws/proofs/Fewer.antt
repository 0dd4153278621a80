-- A filter keeps no more elements that pass a test.
use Rattle.std.proofs.Common.{◌≤◌, ℕ, Bool, true, false, cond, not, List, [], ◌∷◌, arith}
use Rattle.std.specs.Prelude.{count_by, filter}
use Rattle.std.proofs.lemmas.List.Sums.{sum_by-cons}
use Rattle.slot_laws.specs.Homes.{MovingKeepsCount, goes}

module _ {X : Type 0} (p q : X → Bool) where
  weight : X → ℕ
  weight x = cond (p x) 1 0

  pub kept-count : (xs : List X) → count_by p (filter q xs) ≤ count_by p xs
  unfolding weight
  kept-count [] = omega arith
  kept-count (x ∷ xs) = go (q x) (kept-count xs)
    where
      go : (b : Bool) → count_by p (filter q xs) ≤ count_by p xs → count_by p (cond b (x ∷ filter q xs) (filter q xs)) ≤ count_by p (x ∷ xs)
      go true ih = omega (arith, ih, sum_by-cons weight x xs, sum_by-cons weight x (filter q xs))
      go false ih = omega (arith, ih, sum_by-cons weight x xs)

pub moving-keeps-count : MovingKeepsCount
moving-keeps-count home head f = kept-count (λ (o : ℕ × Bool). o.1) (λ (o : ℕ × Bool). not (goes home o.0)) f.frames
