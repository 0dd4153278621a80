-- Instructions of a block before and behind a point, and the number of the piece there.
use Rattle.std.proofs.Common.{◌≡◌, ℕ, zero, suc, ◌+◌, Bool, true, false, cond, List, [], ◌∷◌, ◌++◌, ◌⊎◌, refl, sym, ap, ◌∙◌, subst, inl, inr, append_assoc, arith}
use Rattle.mir_meaning.specs.Paths.{Among, here, there, Step, is_written}
use Rattle.live_lanes.specs.Graph.{writes_in}

pub none-among : {A : Type 0} (x : A) → Among x [] → ⊥
none-among x a = elim a [ ]

pub among-append : {A : Type 0} (x : A) (before rest : List A) → Among x (before ++ x ∷ rest)
among-append x [] rest = here
among-append x (y ∷ before) rest = there (among-append x before rest)

pub writes-append : (l : ℕ) (xs ys : List Step) → writes_in l (xs ++ ys) ≡ writes_in l xs + writes_in l ys
writes-append l [] ys = omega arith
writes-append l (s ∷ xs) ys = go (is_written l s) (writes-append l xs ys)
  where
    go : (b : Bool) → writes_in l (xs ++ ys) ≡ writes_in l xs + writes_in l ys → cond b (suc (writes_in l (xs ++ ys))) (writes_in l (xs ++ ys)) ≡ cond b (suc (writes_in l xs)) (writes_in l xs) + writes_in l ys
    go true h = omega (arith, h)
    go false h = h

pub writes-one : (l : ℕ) (s : Step) → is_written l s ≡ true → writes_in l (s ∷ []) ≡ 1
writes-one l s e = ap (λ b. cond b 1 0) e

pub writes-none : (l : ℕ) (s : Step) → is_written l s ≡ false → writes_in l (s ∷ []) ≡ 0
writes-none l s e = ap (λ b. cond b 1 0) e

-- behind an instruction that writes the lane one more is written
pub writes-more : (l : ℕ) (before : List Step) (s : Step) → is_written l s ≡ true → writes_in l (before ++ s ∷ []) ≡ suc (writes_in l before)
writes-more l before s e = let h = writes-append l before (s ∷ []) in let one = writes-one l s e in omega arith

-- behind one that doesn't write it the piece is the same
pub writes-same : (l : ℕ) (before : List Step) (s : Step) → is_written l s ≡ false → writes_in l (before ++ s ∷ []) ≡ writes_in l before
writes-same l before s e = let h = writes-append l before (s ∷ []) in let none = writes-none l s e in omega arith

pub step-into : (steps before : List Step) (s : Step) (rest : List Step) → steps ≡ before ++ s ∷ rest → steps ≡ (before ++ s ∷ []) ++ rest
step-into steps before s rest e = e ∙ sym (append_assoc before (s ∷ []) rest)

pub written-or-not : (l : ℕ) (s : Step) → (is_written l s ≡ true) ⊎ (is_written l s ≡ false)
written-or-not l s = go (is_written l s) refl
  where
    go : (b : Bool) → is_written l s ≡ b → (is_written l s ≡ true) ⊎ (is_written l s ≡ false)
    go true e = inl e
    go false e = inr e

pub writes-head : (l : ℕ) (s : Step) (ss : List Step) → is_written l s ≡ true → writes_in l (s ∷ ss) ≡ suc (writes_in l ss)
writes-head l s ss e = ap (λ b. cond b (suc (writes_in l ss)) (writes_in l ss)) e
