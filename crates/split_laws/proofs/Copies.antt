-- What a copy of a whole register to another one gives the lanes.
use Rattle.std.proofs.Common.{◌≡◌, ◌≤◌, ◌<◌, ◌+◌, ◌&&◌, ◌++◌, ◌⊎◌, inl, inr, ℕ, zero, suc, Bool, true, false, cond, List, [], ◌∷◌, map, refl, sym, ap, ◌∙◌, subst, arith, eqb-true, eq-eqb}
use Rattle.std.specs.Prelude.{nat_eq}
use Rattle.std.proofs.lemmas.Bool.{eqb-false}
use Rattle.meaning.specs.Lanes.{Writes, filled, same_lane}
use Rattle.meaning.specs.Live.{Among as Member, here as first, there as later}
use Rattle.meaning.specs.declared.types.Fill.TheVariants.{Moved}
use Rattle.meaning.specs.declared.types.Lane.{Lane}
use Rattle.meaning.specs.declared.types.Lane.TheVariants.{VirtualLane}
use Rattle.meaning.specs.declared.types.Source.TheVariants.{FromLane}
use Rattle.mir_meaning.specs.Items.{moved}
use Rattle.mir_meaning.specs.Registers.{numbers}
use Rattle.instr_effects.proofs.Members.{member-cases, member-none}

-- lanes of one register go to those of another, by their numbers
abbrev pub moves : ℕ → ℕ → List ℕ → Writes
moves to from ks = moved false (map (VirtualLane to) ks) (map FromLane (map (VirtualLane from) ks))

pub moves-none : (to from : ℕ) (ks : List ℕ) → moves to from ks ++ [] ≡ moves to from ks
moves-none to from [] = refl
moves-none to from (k ∷ ks) = ap (λ ws. record { lane = VirtualLane to k; fill = Moved (FromLane (VirtualLane from k)); early = false } ∷ ws) (moves-none to from ks)

pub moves-own : (to from : ℕ) (ks : List ℕ) (k : ℕ) → Member k ks → filled (moves to from ks) (VirtualLane to k) ≡ Moved (FromLane (VirtualLane from k))
moves-own to from [] k m = absurd (member-none k m)
moves-own to from (n ∷ ks) k m = go (nat_eq n k) refl (member-cases k n ks m) (moves-own to from ks k)
  where
    head : (b : Bool) → nat_eq n k ≡ b → filled (moves to from (n ∷ ks)) (VirtualLane to k) ≡ cond b (Moved (FromLane (VirtualLane from n))) (filled (moves to from ks) (VirtualLane to k))
    head b e = ap (λ x. cond x (Moved (FromLane (VirtualLane from n))) (filled (moves to from ks) (VirtualLane to k))) (ap (λ x. x && nat_eq n k) (eq-eqb to to refl) ∙ e)

    go : (b : Bool) → nat_eq n k ≡ b → (k ≡ n) ⊎ Member k ks → (Member k ks → filled (moves to from ks) (VirtualLane to k) ≡ Moved (FromLane (VirtualLane from k))) → filled (moves to from (n ∷ ks)) (VirtualLane to k) ≡ Moved (FromLane (VirtualLane from k))
    go true e c ih = head true e ∙ ap (λ x. Moved (FromLane (VirtualLane from x))) (eqb-true n k e)
    go false e (inl c) ih = absurd (eqb-false n k e (sym c))
    go false e (inr j) ih = head false e ∙ ih j

-- other lanes stay
pub moves-other : (to from : ℕ) (ks : List ℕ) (l : Lane) → ((k : ℕ) → same_lane (VirtualLane to k) l ≡ false) → filled (moves to from ks) l ≡ Moved (FromLane l)
moves-other to from [] l h = refl
moves-other to from (k ∷ ks) l h = ap (λ b. cond b (Moved (FromLane (VirtualLane from k))) (filled (moves to from ks) l)) (h k) ∙ moves-other to from ks l h

-- a number is in its place
pub number-in : (n m k : ℕ) → n ≤ k → k < n + m → Member k (numbers n m)
number-in n zero k h g = absurd (omega arith)
number-in n (suc m) k h g = go (nat_eq n k) refl (λ p. number-in (suc n) m k p (omega arith))
  where
    past : (n ≡ k → ⊥) → suc n ≤ k
    past d = omega arith

    go : (b : Bool) → nat_eq n k ≡ b → (suc n ≤ k → Member k (numbers (suc n) m)) → Member k (n ∷ numbers (suc n) m)
    go true e ih = subst (λ x. Member x (n ∷ numbers (suc n) m)) (eqb-true n k e) first
    go false e ih = later (ih (past (eqb-false n k e)))

pub number-below : (n m k : ℕ) → Member k (numbers n m) → k < n + m
number-below n zero k h = absurd (member-none k h)
number-below n (suc m) k h = go (member-cases k n (numbers (suc n) m) h) (number-below (suc n) m k)
  where
    go : (k ≡ n) ⊎ Member k (numbers (suc n) m) → (Member k (numbers (suc n) m) → k < suc n + m) → k < n + suc m
    go (inl e) ih = omega arith
    go (inr j) ih = let z : k < suc n + m = ih j in omega arith
