-- Lists in a list, by their numbers.
use Rattle.std.proofs.Common.{◌≡◌, ◌∙◌, ℕ, zero, suc, ◌+◌, ◌<◌, ◌≤◌, true, false, cond, List, [], ◌∷◌, ◌++◌, None, Some, length, get_or, set, refl, sym, ap, arith, lt-ltb, le-ltb, eq-eqb}
use Rattle.std.specs.Prelude.{nat_eq, nat_lt, slice_get, replicate}
use Rattle.std.proofs.lemmas.Bool.Decides.{nat_tests}
use Rattle.std.proofs.lemmas.List.{replicate_more}

-- the list of that number; none past the end
abbrev pub row : {X : Type 0} → List (List X) → ℕ → List X
row xs p = elim (slice_get xs p) [ None ↦ [] | Some r ↦ r ]

pub row_set : {X : Type 0} (xs : List (List X)) (p : ℕ) (g : List X) (q : ℕ) → p < length xs → row (set xs p g) q ≡ cond (nat_eq p q) g (row xs q)
row_set [] p g q h = absurd (omega arith)
row_set (x ∷ xs) zero g zero h = let e : nat_eq 0 0 ≡ true = eq-eqb 0 0 refl in sym (ap (λ b. cond b g x) e)
row_set (x ∷ xs) zero g (suc q) h = let e : nat_eq 0 (suc q) ≡ false = grind (arith, nat_tests) in sym (ap (λ b. cond b g (row xs q)) e)
row_set (x ∷ xs) (suc p) g zero h = let e : nat_eq (suc p) 0 ≡ false = grind (arith, nat_tests) in sym (ap (λ b. cond b g x) e)
row_set (x ∷ xs) (suc p) g (suc q) h =
    let e : nat_eq (suc p) (suc q) ≡ nat_eq p q = grind (arith, nat_tests) in
    row_set xs p g q (omega arith) ∙ ap (λ b. cond b g (row xs q)) (sym e)

pub row_at : {X : Type 0} (xs : List (List X)) (p : ℕ) (d : List X) → p < length xs → get_or xs p d ≡ row xs p
row_at [] p d h = absurd (omega arith)
row_at (x ∷ xs) zero d h = refl
row_at (x ∷ xs) (suc p) d h = row_at xs p d (omega arith)

pub row_past : {X : Type 0} (xs : List (List X)) (p : ℕ) → length xs ≤ p → row xs p ≡ []
row_past [] p h = refl
row_past (x ∷ xs) zero h = absurd (omega arith)
row_past (x ∷ xs) (suc p) h = row_past xs p (omega arith)

pub row_none : {X : Type 0} (n : ℕ) (f : List X) (p : ℕ) → row (replicate n f) p ≡ cond (nat_lt p n) f []
row_none zero f p = let e : nat_lt p 0 ≡ false = le-ltb p 0 (omega arith) in sym (ap (λ b. cond b f []) e)
row_none (suc n) f zero = let e : nat_lt 0 (suc n) ≡ true = lt-ltb 0 (suc n) (omega arith) in sym (ap (λ b. cond b f []) e)
row_none (suc n) f (suc p) = let e : nat_lt (suc p) (suc n) ≡ nat_lt p n = grind (arith, nat_tests) in row_none n f p ∙ ap (λ b. cond b f []) (sym e)

-- from none on

snoc_length : {X : Type 0} (xs : List X) (y : X) → length (xs ++ y ∷ []) ≡ length xs + 1
snoc_length [] y = refl
snoc_length (x ∷ xs) y = let next : suc (length xs + 1) ≡ suc (length xs) + 1 = omega arith in ap suc (snoc_length xs y) ∙ next

pub row_count : {X : Type 0} (made new : List X) (g : X) → new ≡ made ++ g ∷ [] → length new ≡ length made + 1
row_count made new g grown = ap length grown ∙ snoc_length made g

pub rows_more : {X : Type 0} (f g : X) (made new : List X) → g ≡ f → made ≡ replicate (length made) f → new ≡ made ++ g ∷ [] → new ≡ replicate (length new) f
rows_more f g made new e was grown =
    let n : length new ≡ length made + 1 = ap length grown ∙ snoc_length made g in
    grown
    ∙ (ap (λ z. made ++ z ∷ []) e
    ∙ (ap (λ z. z ++ f ∷ []) was
    ∙ (replicate_more (length made) f ∙ ap (λ k. replicate k f) (sym n))))
