-- The elements of a list whose places pass a test, and how many pass it before one.
use Rattle.std.proofs.Common.{◌≡◌, ◌∙◌, ◌⊎◌, inl, inr, ℕ, suc, ◌+◌, ◌<◌, ◌≤◌, List, [], ◌∷◌, Bool, true, false, cond, refl, sym, ap, length, filter, arith, Some}
use Rattle.std.specs.Prelude.{◌&&◌, slice_get, nat_eq}
use Rattle.std.proofs.lemmas.Bool.{cases_eq, eq-eqb, ne_eqb}
use Rattle.split_choose.specs.Nets.{count_below}
use Rattle.split_choose.specs.Cuts.{place_by}

-- those whose places pass, the first place being this
abbrev pub picked : {X : Type 0} → (ℕ → Bool) → ℕ → List X → List X
picked p k [] = []
picked p k (x ∷ xs) = cond (p k) (x ∷ picked p (suc k) xs) (picked p (suc k) xs)

pub filter-picked : {X : Type 0} (g : X → Bool) (h p : ℕ → Bool) (k : ℕ) (xs : List X) → ((j : ℕ) (x : X) → slice_get xs j ≡ Some x → g x ≡ h (k + j)) → filter g (picked p k xs) ≡ picked (λ j. p j && h j) k xs
filter-picked g h p k [] same = refl
filter-picked {X} g h p k (x ∷ xs) same = go (p k) (filter-picked g h p (suc k) xs (λ j y at. (let e : k + suc j ≡ suc k + j = omega arith in same (suc j) y at ∙ ap h e)))
  where
    now : g x ≡ h k
    now = let e : k + 0 ≡ k = omega arith in same 0 x refl ∙ ap h e

    rest : List X
    rest = picked p (suc k) xs

    go : (b : Bool) → filter g (picked p (suc k) xs) ≡ picked (λ j. p j && h j) (suc k) xs
        → filter g (cond b (x ∷ picked p (suc k) xs) (picked p (suc k) xs)) ≡ cond (b && h k) (x ∷ picked (λ j. p j && h j) (suc k) xs) (picked (λ j. p j && h j) (suc k) xs)
    go false ih = ih
    go true ih = ap (λ c. cond c (x ∷ filter g (picked p (suc k) xs)) (filter g (picked p (suc k) xs))) now ∙ ap (λ ys. cond (h k) (x ∷ ys) ys) ih

pub picked-same : {X : Type 0} (p q : ℕ → Bool) (k : ℕ) (xs : List X) → ((j : ℕ) (x : X) → slice_get xs j ≡ Some x → p (k + j) ≡ q (k + j)) → picked p k xs ≡ picked q k xs
picked-same p q k [] same = refl
picked-same p q k (x ∷ xs) same =
    let e : k + 0 ≡ k = omega arith in
    let now : p k ≡ q k = ap p (sym e) ∙ (same 0 x refl ∙ ap q e) in
    ap (λ b. cond b (x ∷ picked p (suc k) xs) (picked p (suc k) xs)) now
    ∙ ap (λ ys. cond (q k) (x ∷ ys) ys) (picked-same p q (suc k) xs (λ j y at. (let d : suc k + j ≡ k + suc j = omega arith in ap p d ∙ (same (suc j) y at ∙ ap q (sym d)))))

-- a filter picks so
pub filter-is : {X : Type 0} (h : X → Bool) (p : ℕ → Bool) (k : ℕ) (xs : List X) → ((j : ℕ) (x : X) → slice_get xs j ≡ Some x → h x ≡ p (k + j)) → filter h xs ≡ picked p k xs
filter-is h p k [] same = refl
filter-is h p k (x ∷ xs) same =
    let e : k + 0 ≡ k = omega arith in
    ap (λ b. cond b (x ∷ filter h xs) (filter h xs)) (same 0 x refl ∙ ap p e)
    ∙ ap (λ ys. cond (p k) (x ∷ ys) ys) (filter-is h p (suc k) xs (λ j y at. (let d : k + suc j ≡ suc k + j = omega arith in same (suc j) y at ∙ ap p d)))

-- how many there are
pub picked-many : {X : Type 0} (p : ℕ → Bool) (k : ℕ) (xs : List X) → length (picked p k xs) + count_below p k ≡ count_below p (k + length xs)
picked-many p k [] = let e : k ≡ k + 0 = omega arith in let z : 0 + count_below p k ≡ count_below p k = omega arith in z ∙ ap (count_below p) e
picked-many p k (x ∷ xs) = go (p k) refl (picked-many p (suc k) xs)
  where
    e : suc k + length xs ≡ k + suc (length xs)
    e = omega arith

    step : (b : Bool) → p k ≡ b → count_below p (suc k) ≡ count_below p k + cond b 1 0
    step b f = ap (λ c. count_below p k + cond c 1 0) f

    go : (b : Bool) → p k ≡ b → length (picked p (suc k) xs) + count_below p (suc k) ≡ count_below p (suc k + length xs)
        → length (cond b (x ∷ picked p (suc k) xs) (picked p (suc k) xs)) + count_below p k ≡ count_below p (k + suc (length xs))
    go true f ih = let s = step true f in let z : suc (length (picked p (suc k) xs)) + count_below p k ≡ count_below p (suc k + length xs) = omega (arith, s, ih) in z ∙ ap (count_below p) e
    go false f ih = let s = step false f in let z : length (picked p (suc k) xs) + count_below p k ≡ count_below p (suc k + length xs) = omega (arith, s, ih) in z ∙ ap (count_below p) e

-- the place among them of the one of a place that passes
pub picked-place : {X : Type 0} (g : X → Bool) (p : ℕ → Bool) (r k : ℕ) (xs : List X) → ((j : ℕ) (x : X) → slice_get xs j ≡ Some x → p (k + j) ≡ true → g x ≡ nat_eq r (k + j)) → k ≤ r → r < k + length xs → p r ≡ true
    → count_below p k + place_by g (picked p k xs) ≡ count_below p r
picked-place g p r k [] told low high passes = absurd (omega arith)
picked-place {X} g p r k (x ∷ xs) told low high passes = go (p k) refl (picked-place g p r (suc k) xs later)
  where
    later : (j : ℕ) (y : X) → slice_get xs j ≡ Some y → p (suc k + j) ≡ true → g y ≡ nat_eq r (suc k + j)
    later j y at is = let e : suc k + j ≡ k + suc j = omega arith in told (suc j) y at (ap p (sym e) ∙ is) ∙ ap (nat_eq r) (sym e)

    now : p k ≡ true → g x ≡ nat_eq r k
    now is = let e : k + 0 ≡ k = omega arith in told 0 x refl (ap p e ∙ is) ∙ ap (nat_eq r) e

    step : (b : Bool) → p k ≡ b → count_below p (suc k) ≡ count_below p k + cond b 1 0
    step b f = ap (λ c. count_below p k + cond c 1 0) f

    taken : p k ≡ true → (suc k ≤ r → r < suc k + length xs → p r ≡ true → count_below p (suc k) + place_by g (picked p (suc k) xs) ≡ count_below p r)
        → (r ≡ k) ⊎ (r ≡ k → ⊥) → count_below p k + cond (g x) 0 (1 + place_by g (picked p (suc k) xs)) ≡ count_below p r
    taken f ih (inl e) =
        let first : cond (g x) 0 (1 + place_by g (picked p (suc k) xs)) ≡ 0 = ap (λ b. cond b 0 (1 + place_by g (picked p (suc k) xs))) (now f ∙ eq-eqb r k e) in
        let same = ap (count_below p) e in
        omega (arith, first, same)
    taken f ih (inr d) =
        let first : cond (g x) 0 (1 + place_by g (picked p (suc k) xs)) ≡ 1 + place_by g (picked p (suc k) xs) = ap (λ b. cond b 0 (1 + place_by g (picked p (suc k) xs))) (now f ∙ ne_eqb r k d) in
        let below : k < r = omega arith in
        let rest = ih (omega (arith, below)) (omega arith) passes in
        let s = step true f in
        omega (arith, first, rest, s)

    go : (b : Bool) → p k ≡ b → (suc k ≤ r → r < suc k + length xs → p r ≡ true → count_below p (suc k) + place_by g (picked p (suc k) xs) ≡ count_below p r)
        → count_below p k + place_by g (cond b (x ∷ picked p (suc k) xs) (picked p (suc k) xs)) ≡ count_below p r
    go true f ih = taken f ih (cases_eq r k)
    go false f ih = by_place (cases_eq r k)
      where
        by_place : (r ≡ k) ⊎ (r ≡ k → ⊥) → count_below p k + place_by g (picked p (suc k) xs) ≡ count_below p r
        by_place (inl e) = let z : true ≡ false = sym passes ∙ (ap p e ∙ f) in absurd (cc)
        by_place (inr d) =
            let below : k < r = omega arith in
            let rest = ih (omega (arith, below)) (omega arith) passes in
            let s = step false f in
            omega (arith, rest, s)

-- the element at the place where the first stands that passes
pub place-found : {X : Type 0} (g : X → Bool) (xs : List X) → place_by g xs < length xs → (x : X) × (slice_get xs (place_by g xs) ≡ Some x) × (g x ≡ true)
place-found g [] h = absurd (omega arith)
place-found {X} g (x ∷ xs) h = go (g x) refl h (place-found g xs)
  where
    go : (b : Bool) → g x ≡ b → cond b 0 (1 + place_by g xs) < suc (length xs) → (place_by g xs < length xs → (y : X) × (slice_get xs (place_by g xs) ≡ Some y) × (g y ≡ true))
        → (y : X) × (slice_get (x ∷ xs) (cond b 0 (1 + place_by g xs)) ≡ Some y) × (g y ≡ true)
    go true f low ih = (x, refl, f)
    go false f low ih =
        let found = ih (omega arith) in
        let e : 1 + place_by g xs ≡ suc (place_by g xs) = omega arith in
        (found.0, ap (slice_get (x ∷ xs)) e ∙ found.1, found.2)

-- tests that tell the same give the same place
pub place-same : {X : Type 0} (g h : X → Bool) → ((x : X) → g x ≡ h x) → (xs : List X) → place_by g xs ≡ place_by h xs
place-same g h same [] = refl
place-same g h same (x ∷ xs) = ap (λ b. cond b 0 (1 + place_by g xs)) (same x) ∙ ap (λ n. cond (h x) 0 (1 + n)) (place-same g h same xs)
