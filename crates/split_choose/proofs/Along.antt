-- Things that stand at some places of a list, in the order of these places.
use Rattle.std.proofs.Common.{◌≡◌, ◌∙◌, ◌⊎◌, inl, inr, ℕ, zero, suc, ◌+◌, ◌<◌, ◌≤◌, List, [], ◌∷◌, ◌++◌, Bool, true, false, refl, sym, ap, subst, length, get_or, map, arith, Some}
use Rattle.std.specs.Prelude.{◌||◌, slice_get, flat_map, zip, filter, count_by, cond}
use Rattle.std.specs.Ordering.{nat_cmp}
use Rattle.std.specs.List.{list_any, sum_by}
use Rattle.std.specs.List.Sorted.{IsStrictlySortedBy}
use Rattle.std.proofs.lemmas.Bool.{cases_eq}
use Rattle.std.proofs.lemmas.List.Sums.{sum_by-cons}
use Rattle.std.proofs.lemmas.Map.Keys.{IsStrictlyIncreasing-from_sorted}
use Rattle.meaning.specs.Live.{Among, here, there}

module _ {Y : Type 0} (pos : Y → ℕ) where
  -- the places rise, from one on
  abbrev pub Rising : ℕ → List Y → Type 0
  Rising k [] = Unit {0}
  Rising k (y ∷ ys) = (k ≤ pos y) × Rising (suc (pos y)) ys

  rising-behind : (y : Y) (ys : List Y) → IsStrictlySortedBy nat_cmp (map pos (y ∷ ys)) → Rising (suc (pos y)) ys
  unfolding IsStrictlySortedBy
  rising-behind y [] h = tt
  rising-behind y (z ∷ ys) h =
      let lt : pos y < pos z = IsStrictlyIncreasing-from_sorted (map pos (y ∷ z ∷ ys)) h 0 (omega arith) in
      (omega (arith, lt), rising-behind z ys h.1)

  -- places that are in order rise
  pub rising : (ys : List Y) → IsStrictlySortedBy nat_cmp (map pos ys) → Rising 0 ys
  rising [] h = tt
  rising (y ∷ ys) h = (omega arith, rising-behind y ys h)

  lower : (j k : ℕ) (ys : List Y) → j ≤ k → Rising k ys → Rising j ys
  lower j k [] h r = tt
  lower j k (y ∷ ys) h r = (let a = r.0 in omega arith, r.1)

  above : (k : ℕ) (ys : List Y) (y : Y) → Rising k ys → Among y ys → k ≤ pos y
  above k [] y r m = elim m [ ]
  above k (z ∷ ys) y r here = r.0
  above k (z ∷ ys) y r (there m) = let a = above (suc (pos z)) ys y r.1 m in let b = r.0 in omega arith

  module _ {X : Type 0} (R : ℕ → X → Y → Type 0) (N : ℕ → X → Type 0) where
    -- place by place either nothing stands there, or the first of the others does
    abbrev pub Along : ℕ → List X → List Y → Type 0
    Along k [] ys = ys ≡ []
    Along k (x ∷ xs) ys = (N k x × Along (suc k) xs ys) ⊎ ((y : Y) × (rest : List Y) × (ys ≡ y ∷ rest) × R k x y × Along (suc k) xs rest)

    -- it stands at one of the places from k on
    abbrev pub Stands : ℕ → List X → Y → Type 0
    Stands k xs y = (j : ℕ) × (x : X) × (pos y ≡ k + j) × (slice_get xs j ≡ Some x) × R (k + j) x y

    abbrev pub Each : ℕ → List X → List Y → Type 0
    Each k xs ys = (y : Y) → Among y ys → Stands k xs y

    abbrev pub All : ℕ → List X → List Y → Type 0
    All k xs ys = (j : ℕ) (x : X) → slice_get xs j ≡ Some x → ((y : Y) × Among y ys × (pos y ≡ k + j)) ⊎ N (k + j) x

    some-same : {Z : Type 0} (x y : Z) → Some x ≡ Some y → x ≡ y
    some-same x y e = cc

    nothing-at : (j : ℕ) (x : X) → slice_get [] j ≡ Some x → ⊥
    nothing-at j x e = cc

    -- those that stand behind the first place
    each-later : (k : ℕ) (x : X) (xs : List X) (ys : List Y) → Rising (suc k) ys → Each k (x ∷ xs) ys → Each (suc k) xs ys
    each-later k x xs ys r each y m = go (each y m)
      where
        low : suc k ≤ pos y
        low = above (suc k) ys y r m

        go : Stands k (x ∷ xs) y → Stands (suc k) xs y
        go (zero, z, at, found, told) = absurd (omega (arith, at, low))
        go (suc j, z, at, found, told) =
            let e : k + suc j ≡ suc k + j = omega arith in
            let P : ℕ → Type 0 = λ n. R n z y in
            (j, z, at ∙ e, found, subst P e told)

    all-later : (k : ℕ) (x : X) (xs : List X) (ys : List Y) → All k (x ∷ xs) ys → All (suc k) xs ys
    all-later k x xs ys all j z at = go (all (suc j) z at)
      where
        e : k + suc j ≡ suc k + j
        e = omega arith

        go : (((y : Y) × Among y ys × (pos y ≡ k + suc j)) ⊎ N (k + suc j) z) → ((y : Y) × Among y ys × (pos y ≡ suc k + j)) ⊎ N (suc k + j) z
        go (inl q) = inl (q.0, q.1, q.2 ∙ e)
        go (inr n) = let P : ℕ → Type 0 = λ i. N i z in inr (subst P e n)

    all-rest : (k : ℕ) (xs : List X) (y : Y) (ys : List Y) → pos y < k → All k xs (y ∷ ys) → All k xs ys
    all-rest k xs y ys low all j z at = go (all j z at)
      where
        step : (w : Y) → pos w ≡ k + j → Among w (y ∷ ys) → ((y : Y) × Among y ys × (pos y ≡ k + j)) ⊎ N (k + j) z
        step w q here = absurd (omega arith)
        step w q (there m) = inl (w, m, q)

        go : (((w : Y) × Among w (y ∷ ys) × (pos w ≡ k + j)) ⊎ N (k + j) z) → ((w : Y) × Among w ys × (pos w ≡ k + j)) ⊎ N (k + j) z
        go (inl q) = step q.0 q.2 q.1
        go (inr n) = inr n

    here-none : (k : ℕ) (x : X) (xs : List X) (ys : List Y) → Rising (suc k) ys → All k (x ∷ xs) ys → N k x
    here-none k x xs ys r all = go (all 0 x refl)
      where
        e : k + 0 ≡ k
        e = omega arith

        go : (((y : Y) × Among y ys × (pos y ≡ k + 0)) ⊎ N (k + 0) x) → N k x
        go (inl q) = absurd (let a = above (suc k) ys q.0 r q.1 in let b = q.2 in omega arith)
        go (inr n) = let P : ℕ → Type 0 = λ i. N i x in subst P e n

    pub along : (k : ℕ) (xs : List X) (ys : List Y) → Rising k ys → Each k xs ys → All k xs ys → Along k xs ys
    along k [] [] r each all = refl
    along k [] (y ∷ ys) r each all = let s = each y here in absurd (nothing-at s.0 s.1 s.3)
    along k (x ∷ xs) ys r each all = go ys r each all (along (suc k) xs)
      where
        skip : (ys : List Y) → Rising (suc k) ys → Each k (x ∷ xs) ys → All k (x ∷ xs) ys → ((ys : List Y) → Rising (suc k) ys → Each (suc k) xs ys → All (suc k) xs ys → Along (suc k) xs ys) → Along k (x ∷ xs) ys
        skip ys r each all below = inl (here-none k x xs ys r all, below ys r (each-later k x xs ys r each) (all-later k x xs ys all))

        take : (y : Y) (rest : List Y) → pos y ≡ k → Rising (suc (pos y)) rest → Each k (x ∷ xs) (y ∷ rest) → All k (x ∷ xs) (y ∷ rest) → Stands k (x ∷ xs) y → ((ys : List Y) → Rising (suc k) ys → Each (suc k) xs ys → All (suc k) xs ys → Along (suc k) xs ys) → Along k (x ∷ xs) (y ∷ rest)
        take y rest e r each all (suc j, z, at, found, told) below = absurd (omega (arith, e, at))
        take y rest e r each all (zero, z, at, found, told) below =
            let n : k + 0 ≡ k = omega arith in
            let P : ℕ → Type 0 = λ i. R i z y in
            let Q : X → Type 0 = λ w. R k w y in
            let low : Rising (suc k) rest = lower (suc k) (suc (pos y)) rest (omega arith) r in
            inr (
              y,
              rest,
              refl,
              subst Q (some-same z x (sym found)) (subst P n told),
              below rest low (each-later k x xs rest low (λ w m. each w (there m))) (all-rest (suc k) xs y rest (omega arith) (all-later k x xs (y ∷ rest) all)),
            )

        go : (ys : List Y) → Rising k ys → Each k (x ∷ xs) ys → All k (x ∷ xs) ys → ((ys : List Y) → Rising (suc k) ys → Each (suc k) xs ys → All (suc k) xs ys → Along (suc k) xs ys) → Along k (x ∷ xs) ys
        go [] r each all below = skip [] tt each all below
        go (y ∷ rest) r each all below = by_place (cases_eq (pos y) k)
          where
            by_place : (pos y ≡ k) ⊎ (pos y ≡ k → ⊥) → Along k (x ∷ xs) (y ∷ rest)
            by_place (inl e) = take y rest e r.1 each all (each y here) below
            by_place (inr d) = skip (y ∷ rest) (let a = r.0 in omega arith, r.1) each all below

    -- what is told place by place

    pub along-any : (g : Y → Bool) (h : X → Bool) → ((k : ℕ) (x : X) (y : Y) → R k x y → g y ≡ h x) → ((k : ℕ) (x : X) → N k x → h x ≡ false)
        → (k : ℕ) (xs : List X) (ys : List Y) → Along k xs ys → list_any g ys ≡ list_any h xs
    along-any g h same none k [] ys a = ap (list_any g) a
    along-any g h same none k (x ∷ xs) ys a = go a (along-any g h same none (suc k) xs)
      where
        go : Along k (x ∷ xs) ys → ((ys : List Y) → Along (suc k) xs ys → list_any g ys ≡ list_any h xs) → list_any g ys ≡ list_any h (x ∷ xs)
        go (inl (n, b)) ih = ih ys b ∙ sym (ap (λ c. c || list_any h xs) (none k x n))
        go (inr (y, rest, e, r, b)) ih = ap (list_any g) e ∙ (ap (λ c. c || list_any g rest) (same k x y r) ∙ ap (λ c. h x || c) (ih rest b))

    pub along-flat : {Z : Type 0} (g : Y → List Z) (h : X → List Z) → ((k : ℕ) (x : X) (y : Y) → R k x y → g y ≡ h x) → ((k : ℕ) (x : X) → N k x → h x ≡ [])
        → (k : ℕ) (xs : List X) (ys : List Y) → Along k xs ys → flat_map g ys ≡ flat_map h xs
    along-flat g h same none k [] ys a = ap (flat_map g) a
    along-flat g h same none k (x ∷ xs) ys a = go a (along-flat g h same none (suc k) xs)
      where
        go : Along k (x ∷ xs) ys → ((ys : List Y) → Along (suc k) xs ys → flat_map g ys ≡ flat_map h xs) → flat_map g ys ≡ flat_map h (x ∷ xs)
        go (inl (n, b)) ih = ih ys b ∙ sym (ap (λ c. c ++ flat_map h xs) (none k x n))
        go (inr (y, rest, e, r, b)) ih = ap (flat_map g) e ∙ (ap (λ c. c ++ flat_map g rest) (same k x y r) ∙ ap (λ c. h x ++ c) (ih rest b))

    pub along-sum : (g : Y → ℕ) (h : ℕ × X → ℕ) (weight : ℕ → ℕ) → ((k : ℕ) (x : X) (y : Y) → R k x y → g y ≡ h (weight k, x)) → ((k : ℕ) (x : X) → N k x → h (weight k, x) ≡ 0)
        → (k : ℕ) (ws : List ℕ) (xs : List X) (ys : List Y) → length ws ≡ length xs → ((j : ℕ) → j < length xs → get_or ws j 0 ≡ weight (k + j)) → Along k xs ys → sum_by g ys ≡ sum_by h (zip ws xs)
    along-sum g h weight same none k [] [] ys l w a = ap (sum_by g) a
    along-sum g h weight same none k (v ∷ ws) [] ys l w a = absurd (omega (arith, l))
    along-sum g h weight same none k [] (x ∷ xs) ys l w a = absurd (omega (arith, l))
    along-sum g h weight same none k (v ∷ ws) (x ∷ xs) ys l w a = go a (λ zs b. along-sum g h weight same none (suc k) ws xs zs shorter later b)
      where
        here-weight : v ≡ weight k
        here-weight = let e : k + 0 ≡ k = omega arith in w 0 (omega arith) ∙ ap weight e

        later : (j : ℕ) → j < length xs → get_or ws j 0 ≡ weight (suc k + j)
        later j lt = let e : k + suc j ≡ suc k + j = omega arith in w (suc j) (omega arith) ∙ ap weight e

        shorter : length ws ≡ length xs
        shorter = omega (arith, l)

        whole : sum_by h (zip (v ∷ ws) (x ∷ xs)) ≡ h (weight k, x) + sum_by h (zip ws xs)
        whole = sum_by-cons h (v, x) (zip ws xs) ∙ ap (λ u. h (u, x) + sum_by h (zip ws xs)) here-weight

        go : Along k (x ∷ xs) ys → ((ys : List Y) → Along (suc k) xs ys → sum_by g ys ≡ sum_by h (zip ws xs)) → sum_by g ys ≡ sum_by h (zip (v ∷ ws) (x ∷ xs))
        go (inl (n, b)) ih =
            let rest = ih ys b in
            let z = none k x n in
            omega (arith, rest, z, whole)
        go (inr (y, more, e, r, b)) ih =
            let rest = ih more b in
            let z = same k x y r in
            ap (sum_by g) e ∙ (sum_by-cons g y more ∙ (let q : g y + sum_by g more ≡ h (weight k, x) + sum_by h (zip ws xs) = omega (arith, rest, z) in q ∙ sym whole))

    pub along-zip : {Z : Type 0} (g : Y → List Z) (h : ℕ × X → List Z) (weight : ℕ → ℕ) → ((k : ℕ) (x : X) (y : Y) → R k x y → g y ≡ h (weight k, x)) → ((k : ℕ) (x : X) → N k x → h (weight k, x) ≡ [])
        → (k : ℕ) (ws : List ℕ) (xs : List X) (ys : List Y) → length ws ≡ length xs → ((j : ℕ) → j < length xs → get_or ws j 0 ≡ weight (k + j)) → Along k xs ys → flat_map g ys ≡ flat_map h (zip ws xs)
    along-zip g h weight same none k [] [] ys l w a = ap (flat_map g) a
    along-zip g h weight same none k (v ∷ ws) [] ys l w a = absurd (omega (arith, l))
    along-zip g h weight same none k [] (x ∷ xs) ys l w a = absurd (omega (arith, l))
    along-zip {Z} g h weight same none k (v ∷ ws) (x ∷ xs) ys l w a = go a (λ zs b. along-zip g h weight same none (suc k) ws xs zs shorter later b)
      where
        here-weight : v ≡ weight k
        here-weight = let e : k + 0 ≡ k = omega arith in w 0 (omega arith) ∙ ap weight e

        later : (j : ℕ) → j < length xs → get_or ws j 0 ≡ weight (suc k + j)
        later j lt = let e : k + suc j ≡ suc k + j = omega arith in w (suc j) (omega arith) ∙ ap weight e

        shorter : length ws ≡ length xs
        shorter = omega (arith, l)

        whole : h (v, x) ++ flat_map h (zip ws xs) ≡ h (weight k, x) ++ flat_map h (zip ws xs)
        whole = ap (λ u. h (u, x) ++ flat_map h (zip ws xs)) here-weight

        go : Along k (x ∷ xs) ys → ((ys : List Y) → Along (suc k) xs ys → flat_map g ys ≡ flat_map h (zip ws xs)) → flat_map g ys ≡ h (v, x) ++ flat_map h (zip ws xs)
        go (inl (n, b)) ih = ih ys b ∙ sym (whole ∙ ap (λ c. c ++ flat_map h (zip ws xs)) (none k x n))
        go (inr (y, more, e, r, b)) ih = ap (flat_map g) e ∙ (ap (λ c. c ++ flat_map g more) (same k x y r) ∙ (ap (λ c. h (weight k, x) ++ c) (ih more b) ∙ sym whole))

    pub along-count : (g : Y → Bool) (h : X → Bool) → ((k : ℕ) (x : X) (y : Y) → R k x y → g y ≡ h x) → ((k : ℕ) (x : X) → N k x → h x ≡ false)
        → (k : ℕ) (xs : List X) (ys : List Y) → Along k xs ys → count_by g ys ≡ length (filter h xs)
    along-count g h same none k [] ys a = ap (count_by g) a
    along-count g h same none k (x ∷ xs) ys a = go a (along-count g h same none (suc k) xs)
      where
        counted : (b : Bool) (n : ℕ) → n ≡ length (filter h xs) → cond b 1 0 + n ≡ length (cond b (x ∷ filter h xs) (filter h xs))
        counted true n e = omega (arith, e)
        counted false n e = omega (arith, e)

        go : Along k (x ∷ xs) ys → ((ys : List Y) → Along (suc k) xs ys → count_by g ys ≡ length (filter h xs)) → count_by g ys ≡ length (filter h (x ∷ xs))
        go (inl (n, b)) ih = ih ys b ∙ sym (ap (λ c. length (cond c (x ∷ filter h xs) (filter h xs))) (none k x n))
        go (inr (y, rest, e, r, b)) ih =
            ap (count_by g) e ∙ (sum_by-cons (λ z. cond (g z) 1 0) y rest ∙ (ap (λ c. cond c 1 0 + count_by g rest) (same k x y r) ∙ counted (h x) (count_by g rest) (ih rest b)))
