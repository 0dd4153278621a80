-- Two lists that are tested element by element, and the operands and indexes of a join.
use Rattle.std.proofs.Common.{◌≡◌, ◌≢◌, ◌∷◌, ◌∙◌, ◌+◌, ◌<◌, ◌≤◌, ℕ, zero, suc, Bool, true, false, List, [], Option, Some, None, length, get_or, drop, refl, ap, ◌&&◌, arith}
use Rattle.std.proofs.lemmas.List.{drop_more}
use Rattle.mir_func.specs.declared.func.Operand.{Operand}
use Rattle.mir_func.specs.declared.func.Operand.TheVariants as operands
use Rattle.mir_func.specs.declared.func.RegOp.{RegOp}
use Rattle.mir_func.specs.Binding.{register_at}
use Rattle.live_edits.specs.Folded.{two_sides}

-- the test holds of lists of the same length whose elements pass a test of two
pub record IsOfElements {A B : Type 0} (all : List A → List B → Bool) (test : A → B → Bool) : Type 0 where
  pub none : all [] [] ≡ true
  pub more : (y : B) (ys : List B) → all [] (y ∷ ys) ≡ false
  pub less : (x : A) (xs : List A) → all (x ∷ xs) [] ≡ false
  pub both : (x : A) (xs : List A) (y : B) (ys : List B) → all (x ∷ xs) (y ∷ ys) ≡ (test x y && all xs ys)

false_and : (a b : Bool) → b ≡ false → (a && b) ≡ false
false_and true b h = h
false_and false b h = refl

true_and : (a b : Bool) → a ≡ true → (a && b) ≡ b
true_and true b h = refl
true_and false b h = absurd (cc)

stops : (a b : Bool) → a ≡ false → (a && b) ≡ false
stops true b h = absurd (cc)
stops false b h = refl

module _ {A B : Type 0} (all : List A → List B → Bool) (test : A → B → Bool) (is : IsOfElements all test) where
  pub other-lengths : (xs : List A) (ys : List B) → length xs ≢ length ys → all xs ys ≡ false
  other-lengths [] [] h = absurd (h refl)
  other-lengths [] (y ∷ ys) h = is.more y ys
  other-lengths (x ∷ xs) [] h = is.less x xs
  other-lengths (x ∷ xs) (y ∷ ys) h = is.both x xs y ys ∙ false_and (test x y) (all xs ys) (other-lengths xs ys (λ e. h (omega (arith, e))))

  all-step : (xs : List A) (ys : List B) (k : ℕ) (c : A) (d : B) → k < length xs → k < length ys → all (drop k xs) (drop k ys) ≡ (test (get_or xs k c) (get_or ys k d) && all (drop (k + 1) xs) (drop (k + 1) ys))
  all-step xs ys k c d h g =
      ap (λ zs. all zs (drop k ys)) (drop_more xs k c h)
      ∙ (ap (λ zs. all (get_or xs k c ∷ drop (k + 1) xs) zs) (drop_more ys k d g)
      ∙ is.both (get_or xs k c) (drop (k + 1) xs) (get_or ys k d) (drop (k + 1) ys))

  pub all-stop : (xs : List A) (ys : List B) (k : ℕ) (c : A) (d : B) → k < length xs → k < length ys → test (get_or xs k c) (get_or ys k d) ≡ false → all (drop k xs) (drop k ys) ≡ false
  all-stop xs ys k c d h g e = all-step xs ys k c d h g ∙ stops (test (get_or xs k c) (get_or ys k d)) (all (drop (k + 1) xs) (drop (k + 1) ys)) e

  pub all-on : (xs : List A) (ys : List B) (k : ℕ) (c : A) (d : B) → k < length xs → k < length ys → test (get_or xs k c) (get_or ys k d) ≡ true → all (drop k xs) (drop k ys) ≡ all (drop (k + 1) xs) (drop (k + 1) ys)
  all-on xs ys k c d h g e = all-step xs ys k c d h g ∙ true_and (test (get_or xs k c) (get_or ys k d)) (all (drop (k + 1) xs) (drop (k + 1) ys)) e

  pub all-end : (xs : List A) (ys : List B) (k : ℕ) → length xs ≤ k → length ys ≤ k → all (drop k xs) (drop k ys) ≡ true
  all-end xs ys k h g = ap (λ zs. all zs (drop k ys)) (dropped xs k h) ∙ (ap (all []) (dropped ys k g) ∙ is.none)
    where
      dropped : {X : Type 0} (zs : List X) (n : ℕ) → length zs ≤ n → drop n zs ≡ []
      dropped [] zero q = refl
      dropped [] (suc n) q = refl
      dropped (z ∷ zs) zero q = absurd (omega (arith, q))
      dropped (z ∷ zs) (suc n) q = dropped zs n (omega (arith, q))

-- the sides of a copy

abbrev pub both_of : Option RegOp → Option RegOp → Option (RegOp × RegOp)
both_of None q = None
both_of (Some d) None = None
both_of (Some d) (Some s) = Some (d, s)

pub sides-of : (os : List Operand) → length os ≡ 2 → two_sides os ≡ both_of (register_at os 0) (register_at os 1)
sides-of [] e = absurd (omega (arith, e))
sides-of (o ∷ []) e = absurd (omega (arith, e))
sides-of (o ∷ p ∷ q ∷ os) e = absurd (omega (arith, e))
sides-of (operands.Reg d ∷ operands.Reg s ∷ []) e = refl
sides-of (operands.Reg d ∷ p ∷ []) e = refl
sides-of (o ∷ p ∷ []) e = refl

pub no-sides : (os : List Operand) → length os ≢ 2 → two_sides os ≡ None
no-sides (operands.Reg d ∷ operands.Reg s ∷ []) h = absurd (h refl)
no-sides os h = refl
