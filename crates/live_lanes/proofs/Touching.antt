-- Which instructions are found, and that they come in layout order.
use Rattle.std.proofs.Common.{add-one, ◌⊎◌, inl, inr, ◌+◌, ◌-◌, ◌≡◌, ◌<◌, ◌≤◌, ℕ, zero, suc, Bool, true, false, not, cond, length, List, [], ◌∷◌, ◌++◌, take, map, Option, None, Some, refl, sym, ap, ◌∙◌, subst, arith, get_or, eqb, eqb-true, length-append}
use Rattle.std.specs.Prelude.{slice_get, slice_index, nat_eq, nat_lt, reverse, ◌||◌}
use Rattle.std.specs.Ordering.{nat_cmp}
use Rattle.std.specs.declared.cmp.Ordering.TheVariants.{Less, Equal, Greater}
use Rattle.std.specs.List.{list_any, AllByRecursion, dedup, dedup_from}
use Rattle.std.specs.List.Sorted.{IsStrictlySortedBy, IsStrictlyIncreasing, IsNonDecreasingBy, IsPermutation}
use Rattle.std.proofs.Math.ListN.{get_or-append}
use Rattle.std.proofs.Math.Seq.{get_or-append_seam}
use Rattle.std.proofs.lemmas.Bool.{cases_lt, lt-ltb, eqb-false, ltb-true, ltb-false}
use Rattle.std.proofs.lemmas.List.{take_all, map-append, length-map, get_or-map}
use Rattle.std.proofs.lemmas.List.Folds.{list_any-append, list_any_at, list_any_more}
use Rattle.std.proofs.lemmas.List.Sorted.{list_any-IsPermutation, IsPermutation-reverse}
use Rattle.std.proofs.lemmas.Map.Keys.{sorted_from_strictly_increasing, IsStrictlyIncreasing-from_sorted}
use Rattle.std.proofs.lemmas.Option.{slice_get-get_or, get_or_from_slice_get}
use Rattle.instr_effects.specs.declared.row.LaneSpan.{LaneSpan}
use Rattle.instr_effects.specs.Row.{lane_in}
use Rattle.instr_effects.specs.Numbers.{row_number_in}
use Rattle.live_lanes.specs.declared.table.Table.{Table}
use Rattle.live_lanes.specs.declared.ask.touch.TouchList.{TouchList}
use Rattle.live_lanes.specs.Table.{Numbers}
use Rattle.live_lanes.specs.Ends.{row_at}
use Rattle.mir_meaning.specs.Paths.{has}
use Rattle.live_lanes.specs.Touching.{some_below, some_of, some_lane, names_lane, layout_key, AreTouched, InLine, Meets}
use Rattle.live_lanes.proofs.Flowing.{has-any, push-has, or-assoc, or-false}

-- meeting nothing, and meeting more

pub meets-none : (slots : Numbers) (f : TouchList) (test : ℕ → Bool) → ((x : ℕ) → test x ≡ false) → Meets slots f f test
meets-none slots f test none = record {
  named = λ x. sym (or-false (has x f.ids.items)) ∙ ap (λ t. has x f.ids.items || t) (sym (none x));
  line = λ h. h;
}

pub meets-more : (slots : Numbers) (a b c : TouchList) (one other both : ℕ → Bool) → Meets slots a b one → Meets slots b c other → ((x : ℕ) → (one x || other x) ≡ both x) → Meets slots a c both
meets-more slots a b c one other both first next same = record {
  named = λ x. next.named x ∙ ap (λ t. t || other x) (first.named x) ∙ or-assoc (has x a.ids.items) (one x) (other x) ∙ ap (λ t. has x a.ids.items || t) (same x);
  line = λ h. next.line (first.line h);
}

pub meets-reset : (slots : Numbers) (a b : TouchList) (test : ℕ → Bool) → a.ids ≡ b.ids → a.is_mixed ≡ b.is_mixed → ((x : ℕ) → test x ≡ false) → Meets slots a b test
meets-reset slots a b test ids mixed none = record {
  named = λ x. ap (λ v. has x v.items) (sym ids) ∙ sym (or-false (has x a.ids.items)) ∙ ap (λ t. has x a.ids.items || t) (sym (none x));
  line = λ h m. subst (λ v. IsStrictlySortedBy nat_cmp (map (layout_key slots) v.items)) ids (h (mixed ∙ m));
}

pub meets-same : (slots : Numbers) (a b : TouchList) (one other : ℕ → Bool) → Meets slots a b one → ((x : ℕ) → one x ≡ other x) → Meets slots a b other
meets-same slots a b one other first same = record {
  named = λ x. first.named x ∙ ap (λ t. has x a.ids.items || t) (same x);
  line = first.line;
}

pub has-there : (xs items : List ℕ) (k id other : ℕ) → xs ≡ items → k < length xs → other ≡ get_or xs k other → nat_eq other id ≡ true → has id items ≡ true
has-there xs items k id other e h own same = ap (has id) (sym e) ∙ has-any id xs ∙ list_any_at (λ y. nat_eq y id) xs k other h (ap (λ y. nat_eq y id) (sym own) ∙ same)

-- elements one after the other
pub meets-element : {X : Type 0} (slots : Numbers) (a b c : TouchList) (f : ℕ → X → Bool) (xs : List X) (k : ℕ) (d : X) → k < length xs → Meets slots a b (λ x. list_any (f x) (take k xs)) → Meets slots b c (λ x. f x (get_or xs k d)) → Meets slots a c (λ x. list_any (f x) (take (k + 1) xs))
meets-element slots a b c f xs k d h first next = meets-more slots a b c (λ x. list_any (f x) (take k xs)) (λ x. f x (get_or xs k d)) (λ x. list_any (f x) (take (k + 1) xs)) first next (λ x. sym (list_any_more (f x) xs k d h))

pub meets-item : {X : Type 0} (slots : Numbers) (a b c : TouchList) (f : ℕ → X → Bool) (xs : List X) (k : ℕ) (d : X) → k < length xs → d ≡ get_or xs k d → Meets slots a b (λ x. list_any (f x) (take k xs)) → Meets slots b c (λ x. f x d) → Meets slots a c (λ x. list_any (f x) (take (k + 1) xs))
meets-item slots a b c f xs k d h own first next = meets-element slots a b c f xs k d h first (subst (λ e. Meets slots b c (λ x. f x e)) own next)

pub meets-all : {X : Type 0} (slots : Numbers) (a b : TouchList) (f : ℕ → X → Bool) (xs : List X) (k : ℕ) → length xs ≤ k → Meets slots a b (λ x. list_any (f x) (take k xs)) → Meets slots a b (λ x. list_any (f x) xs)
meets-all slots a b f xs k h all = meets-same slots a b (λ x. list_any (f x) (take k xs)) (λ x. list_any (f x) xs) all (λ x. ap (list_any (f x)) (take_all k xs h))

pub meets-reversed : {X : Type 0} (slots : Numbers) (a b : TouchList) (f : ℕ → X → Bool) (xs ys : List X) → ys ≡ reverse xs → Meets slots a b (λ x. list_any (f x) ys) → Meets slots a b (λ x. list_any (f x) xs)
meets-reversed slots a b f xs ys e all = meets-same slots a b (λ x. list_any (f x) ys) (λ x. list_any (f x) xs) all (λ x. ap (list_any (f x)) e ∙ sym (list_any-IsPermutation (f x) xs (reverse xs) (IsPermutation-reverse xs)))

pub meets-pushed : {X : Type 0} (slots : Numbers) (a b c : TouchList) (f : ℕ → X → Bool) (xs ys : List X) (y : X) → ys ≡ xs ++ y ∷ [] → Meets slots a b (λ x. list_any (f x) xs) → Meets slots b c (λ x. f x y) → Meets slots a c (λ x. list_any (f x) ys)
meets-pushed slots a b c f xs ys y e first next = meets-more slots a b c (λ x. list_any (f x) xs) (λ x. f x y) (λ x. list_any (f x) ys) first next (λ x. sym (ap (list_any (f x)) e ∙ list_any-append (f x) xs (y ∷ []) ∙ ap (λ t. list_any (f x) xs || t) (or-false (f x y))))

-- lanes one after the other
pub meets-lane : (slots : Numbers) (a b c : TouchList) (f : ℕ → ℕ → Bool) (first k l : ℕ) → l ≡ first + k → Meets slots a b (λ x. some_below (f x) first k) → Meets slots b c (λ x. f x l) → Meets slots a c (λ x. some_below (f x) first (k + 1))
meets-lane slots a b c f first k l e old next = meets-more slots a b c (λ x. some_below (f x) first k) (λ x. f x l) (λ x. some_below (f x) first (k + 1)) old next (λ x. or-flip (some_below (f x) first k) (f x l) ∙ ap (λ n. f x n || some_below (f x) first k) e ∙ ap (some_below (f x) first) (sym (add-one k)))
  where
    or-flip : (t u : Bool) → (t || u) ≡ (u || t)
    or-flip true true = refl
    or-flip true false = refl
    or-flip false true = refl
    or-flip false false = refl

-- instructions in layout order

increasing-push : (ks : List ℕ) (y : ℕ) → IsStrictlyIncreasing ks → (0 < length ks → get_or ks (length ks - 1) 0 < y) → IsStrictlyIncreasing (ks ++ y ∷ [])
increasing-push ks y up last k h = go (cases_lt (k + 1) (length ks))
  where
    long : length (ks ++ y ∷ []) ≡ length ks + 1
    long = length-append ks (y ∷ [])

    go : (k + 1 < length ks) ⊎ (length ks ≤ k + 1) → get_or (ks ++ y ∷ []) k 0 < get_or (ks ++ y ∷ []) (k + 1) 0
    go (inl lt) =
        let a = get_or-append ks (y ∷ []) 0 k (omega arith) in
        let b = get_or-append ks (y ∷ []) 0 (k + 1) lt in
        let c = up k lt in
        omega (arith, a, b, c)
    go (inr ge) =
        let size : length ks ≡ k + 1 = omega (arith, h, long, ge) in
        let a = get_or-append ks (y ∷ []) 0 k (omega arith) in
        let b : get_or (ks ++ y ∷ []) (k + 1) 0 ≡ y = subst (λ n. get_or (ks ++ y ∷ []) n 0 ≡ y) size (get_or-append_seam ks y [] 0) in
        let c : get_or ks k 0 < y = subst (λ n. get_or ks n 0 < y) (omega arith) (last (omega arith)) in
        omega (arith, a, b, c)

pub line-push : (slots : Numbers) (ids : List ℕ) (id last : ℕ) → slice_get ids (length ids - 1) ≡ Some last → layout_key slots last < layout_key slots id → IsStrictlySortedBy nat_cmp (map (layout_key slots) ids) → IsStrictlySortedBy nat_cmp (map (layout_key slots) (ids ++ id ∷ []))
line-push slots ids id last there lt up =
    subst (IsStrictlySortedBy nat_cmp) (sym (map-append (layout_key slots) ids (id ∷ [])))
    (sorted_from_strictly_increasing (map (layout_key slots) ids ++ layout_key slots id ∷ [])
    (increasing-push (map (layout_key slots) ids) (layout_key slots id) (IsStrictlyIncreasing-from_sorted (map (layout_key slots) ids) up) below))
  where
    below : 0 < length (map (layout_key slots) ids) → get_or (map (layout_key slots) ids) (length (map (layout_key slots) ids) - 1) 0 < layout_key slots id
    below more =
        let size : length (map (layout_key slots) ids) ≡ length ids = length-map ids (layout_key slots) in
        let at : get_or (map (layout_key slots) ids) (length ids - 1) 0 ≡ layout_key slots (get_or ids (length ids - 1) last) = get_or-map (layout_key slots) ids (length ids - 1) last 0 (omega arith) in
        let own : get_or ids (length ids - 1) last ≡ last = get_or_from_slice_get ids (length ids - 1) last last there in
        let same : get_or (map (layout_key slots) ids) (length (map (layout_key slots) ids) - 1) 0 ≡ layout_key slots last = ap (λ n. get_or (map (layout_key slots) ids) (n - 1) 0) size ∙ at ∙ ap (layout_key slots) own in
        subst (λ n. n < layout_key slots id) (sym same) lt

pub line-first : (slots : Numbers) (ids : List ℕ) (id : ℕ) → slice_get ids (length ids - 1) ≡ None → IsStrictlySortedBy nat_cmp (map (layout_key slots) (ids ++ id ∷ []))
line-first slots [] id none = sorted_from_strictly_increasing (layout_key slots id ∷ []) (λ k h. absurd (omega arith))
line-first slots (x ∷ xs) id none = absurd (let there = slice_get-get_or (x ∷ xs) (length (x ∷ xs) - 1) x (omega arith) in let z : None ≡ Some (get_or (x ∷ xs) (length (x ∷ xs) - 1) x) = sym none ∙ there in cc)

pub meets-added : (slots : Numbers) (a b : TouchList) (id : ℕ) (behind : Bool) → b.ids.items ≡ a.ids.items ++ id ∷ [] → b.is_mixed ≡ (a.is_mixed || not behind) → (behind ≡ true → IsStrictlySortedBy nat_cmp (map (layout_key slots) a.ids.items) → IsStrictlySortedBy nat_cmp (map (layout_key slots) (a.ids.items ++ id ∷ []))) → Meets slots a b (nat_eq id)
meets-added slots a b id behind ids mixed keeps = record {
  named = λ x. ap (has x) ids ∙ push-has a.ids.items id x;
  line = λ h m. subst (λ xs. IsStrictlySortedBy nat_cmp (map (layout_key slots) xs)) (sym ids) (keeps (right a.is_mixed behind (sym mixed ∙ m)) (h (left a.is_mixed behind (sym mixed ∙ m))));
}
  where
    left : (s t : Bool) → (s || not t) ≡ false → s ≡ false
    left true t e = e
    left false t e = refl

    right : (s t : Bool) → (s || not t) ≡ false → t ≡ true
    right true true e = refl
    right true false e = sym e
    right false true e = refl
    right false false e = sym e

-- instructions that are sorted, each once

pub moved-has : (x : ℕ) (xs ys : List ℕ) → IsPermutation xs ys → has x ys ≡ has x xs
moved-has x xs ys h = has-any x ys ∙ sym (list_any-IsPermutation (λ y. nat_eq y x) xs ys h) ∙ sym (has-any x xs)

dedup-from-has : (y : ℕ) (xs : List ℕ) (k : ℕ) → has y (dedup_from eqb k xs) ≡ cond (nat_eq k y) true (has y xs)
dedup-from-has y [] k = refl
dedup-from-has y (x ∷ xs) k = go (eqb x k) refl (λ z. dedup-from-has y xs z)
  where
    twice : (t u : Bool) → cond t true u ≡ cond t true (cond t true u)
    twice true u = refl
    twice false u = refl

    go : (t : Bool) → eqb x k ≡ t → ((z : ℕ) → has y (dedup_from eqb z xs) ≡ cond (nat_eq z y) true (has y xs)) → has y (cond t (dedup_from eqb k xs) (k ∷ dedup_from eqb x xs)) ≡ cond (nat_eq k y) true (cond (nat_eq x y) true (has y xs))
    go true e ih = ih k ∙ subst (λ z. cond (nat_eq k y) true (has y xs) ≡ cond (nat_eq k y) true (cond (nat_eq z y) true (has y xs))) (sym (eqb-true x k e)) (twice (nat_eq k y) (has y xs))
    go false e ih = ap (λ t. cond (nat_eq k y) true t) (ih x)

pub dedup-has : (y : ℕ) (xs : List ℕ) → has y (dedup eqb xs) ≡ has y xs
dedup-has y [] = refl
dedup-has y (x ∷ xs) = dedup-from-has y xs x

less : (a b : ℕ) → a < b → nat_cmp a b ≡ Less
less a b h = ap (λ t. cond t Less (cond (eqb a b) Equal Greater)) (lt-ltb a b h)

-- what holds of each that is kept holds of all
all-from : (xs : List ℕ) (k : ℕ) → AllByRecursion (λ x. x < 4294967296) (dedup_from eqb k xs) → AllByRecursion (λ x. x < 4294967296) (k ∷ xs)
all-from [] k h = h
all-from (x ∷ xs) k h = go (eqb x k) refl (λ z. all-from xs z) h
  where
    go : (t : Bool) → eqb x k ≡ t → ((z : ℕ) → AllByRecursion (λ x. x < 4294967296) (dedup_from eqb z xs) → AllByRecursion (λ x. x < 4294967296) (z ∷ xs)) → AllByRecursion (λ x. x < 4294967296) (cond t (dedup_from eqb k xs) (k ∷ dedup_from eqb x xs)) → AllByRecursion (λ x. x < 4294967296) (k ∷ x ∷ xs)
    go true e ih g = let all = ih k g in (all.0, (subst (λ z. z < 4294967296) (sym (eqb-true x k e)) all.0, all.1))
    go false e ih g = (g.0, ih x g.1)

module _ (slots : Numbers) where
  abbrev Ascends : ℕ → List ℕ → Type 0
  Ascends n [] = Unit {0}
  Ascends n (x ∷ xs) = (n ≤ layout_key slots x) × (x < 4294967296) × Ascends (layout_key slots x) xs

  ascends : (xs : List ℕ) (n : ℕ) → IsNonDecreasingBy (layout_key slots) xs → AllByRecursion (λ x. x < 4294967296) xs → ((d : ℕ) → 0 < length xs → n ≤ layout_key slots (get_or xs 0 d)) → Ascends n xs
  ascends [] n up small low = tt
  ascends (x ∷ xs) n up small low = (low x (omega arith), small.0, ascends xs (layout_key slots x) (λ i j d le lt. up (suc i) (suc j) d (omega arith) (omega arith)) small.1 (λ d lt. up zero (suc zero) d (omega arith) (omega arith)))

  below-all : (n : ℕ) (xs : List ℕ) (k : ℕ) → n < layout_key slots k → Ascends (layout_key slots k) xs → AllByRecursion (λ y. nat_cmp n y ≡ Less) (map (layout_key slots) (dedup_from eqb k xs))
  below-all n [] k lt up = (less n (layout_key slots k) lt, tt)
  below-all n (x ∷ xs) k lt up = go (eqb x k) refl (λ z l u. below-all n xs z l u)
    where
      go : (t : Bool) → eqb x k ≡ t → ((z : ℕ) → n < layout_key slots z → Ascends (layout_key slots z) xs → AllByRecursion (λ y. nat_cmp n y ≡ Less) (map (layout_key slots) (dedup_from eqb z xs))) → AllByRecursion (λ y. nat_cmp n y ≡ Less) (map (layout_key slots) (cond t (dedup_from eqb k xs) (k ∷ dedup_from eqb x xs)))
      go true e ih = ih k lt (subst (λ z. Ascends (layout_key slots z) xs) (eqb-true x k e) up.2)
      go false e ih = (less n (layout_key slots k) lt, ih x (omega (arith, lt, up.0)) up.2)

  strict-from : (xs : List ℕ) (k : ℕ) → k < 4294967296 → Ascends (layout_key slots k) xs → IsStrictlySortedBy nat_cmp (map (layout_key slots) (dedup_from eqb k xs))
  unfolding IsStrictlySortedBy
  strict-from [] k small up = (tt, tt)
  strict-from (x ∷ xs) k small up = go (eqb x k) refl (λ z l u. strict-from xs z l u)
    where
      apart : eqb x k ≡ false → layout_key slots k < layout_key slots x
      apart e = let unequal = eqb-false x k e in omega (arith, small, up.0, up.1, unequal)

      go : (t : Bool) → eqb x k ≡ t → ((z : ℕ) → z < 4294967296 → Ascends (layout_key slots z) xs → IsStrictlySortedBy nat_cmp (map (layout_key slots) (dedup_from eqb z xs))) → IsStrictlySortedBy nat_cmp (map (layout_key slots) (cond t (dedup_from eqb k xs) (k ∷ dedup_from eqb x xs)))
      go true e ih = ih k small (subst (λ z. Ascends (layout_key slots z) xs) (eqb-true x k e) up.2)
      go false e ih = (below-all (layout_key slots k) xs x (apart e) up.2, ih x up.1 up.2)

  pub dedup-line : (xs ys : List ℕ) → IsNonDecreasingBy (layout_key slots) xs → ys ≡ dedup eqb xs → ((i d : ℕ) → i < length ys → get_or ys i d < 4294967296) → IsStrictlySortedBy nat_cmp (map (layout_key slots) ys)
  dedup-line xs ys up e small = subst (λ zs. IsStrictlySortedBy nat_cmp (map (layout_key slots) zs)) (sym e) (whole xs up (subst (AllByRecursion (λ x. x < 4294967296)) e (each ys small)))
    where
      each : (zs : List ℕ) → ((i d : ℕ) → i < length zs → get_or zs i d < 4294967296) → AllByRecursion (λ x. x < 4294967296) zs
      each [] h = tt
      each (z ∷ zs) h = (h zero z (omega arith), each zs (λ i d lt. h (suc i) d (omega arith)))

      whole : (zs : List ℕ) → IsNonDecreasingBy (layout_key slots) zs → AllByRecursion (λ x. x < 4294967296) (dedup eqb zs) → IsStrictlySortedBy nat_cmp (map (layout_key slots) (dedup eqb zs))
      whole [] u h = sorted_from_strictly_increasing [] (λ k lt. absurd (omega arith))
      whole (z ∷ zs) u h = let all = all-from zs z h in strict-from zs z all.0 (ascends (z ∷ zs) 0 u all (λ d lt. omega arith)).2

-- the lanes of a range

never : (c : ℕ) → nat_lt c c ≡ false
never c = low (nat_lt c c) refl
  where
    low : (u : Bool) → nat_lt c c ≡ u → nat_lt c c ≡ false
    low true e = let z = ltb-true c c e in absurd (omega arith)
    low false e = e

module _ (test : ℕ → Bool) where
  lane-none : (f c k : ℕ) → nat_lt k c ≡ false → lane_in f c k ≡ None
  lane-none f c k e = ap (λ t. cond t (Some (f + k)) None) e

  lane-some : (f c k : ℕ) → nat_lt k c ≡ true → lane_in f c k ≡ Some (f + k)
  lane-some f c k e = ap (λ t. cond t (Some (f + k)) None) e

  some-injective : (a c : ℕ) → Some a ≡ Some c → a ≡ c
  some-injective a c e = cc

  same-count : (first first' c : ℕ) → ((k : ℕ) → lane_in first c k ≡ lane_in first' c k) → some_below test first c ≡ some_below test first' c
  same-count first first' zero g = refl
  same-count first first' (suc n) g =
      let here : first + n ≡ first' + n = some-injective (first + n) (first' + n) (sym (lane-some first (suc n) n (lt-ltb n (suc n) (omega arith))) ∙ g n ∙ lane-some first' (suc n) n (lt-ltb n (suc n) (omega arith))) in
      let equal : first ≡ first' = omega arith in
      ap (λ f. some_below test f (suc n)) equal

  some-same : (first first' count count' : ℕ) → ((k : ℕ) → lane_in first count k ≡ lane_in first' count' k) → some_below test first count ≡ some_below test first' count'
  some-same first first' count count' h = go (nat_lt count' count) refl (nat_lt count count') refl
    where
      go : (u : Bool) → nat_lt count' count ≡ u → (w : Bool) → nat_lt count count' ≡ w → some_below test first count ≡ some_below test first' count'
      go true e w f = absurd (let z : Some (first + count') ≡ None = sym (lane-some first count count' e) ∙ h count' ∙ lane-none first' count' count' (never count') in cc)
      go false e true f = absurd (let z : None ≡ Some (first' + count) = sym (lane-none first count count (never count)) ∙ h count ∙ lane-some first' count' count f in cc)
      go false e false f =
          let a = ltb-false count' count e in
          let c = ltb-false count count' f in
          let equal : count ≡ count' = omega arith in
          same-count first first' count (λ k. h k ∙ ap (λ n. lane_in first' n k) (sym equal)) ∙ ap (some_below test first') equal

  no-lanes : (first count : ℕ) → ((k : ℕ) → lane_in first count k ≡ None) → some_below test first count ≡ false
  no-lanes first zero h = refl
  no-lanes first (suc n) h = absurd (let z : Some (first + n) ≡ None = sym (lane-some first (suc n) n (lt-ltb n (suc n) (omega arith))) ∙ h n in cc)

  some-of : (first count : ℕ) (q : Option LaneSpan) → ((k : ℕ) → lane_in first count k ≡ row_number_in q k) → some_below test first count ≡ some_of test q
  some-of first count None h = no-lanes first count h
  some-of first count (Some own) h = some-same first own.first count own.count h

  pub range-lanes : (x : Table) (v first count : ℕ) → ((k : ℕ) → lane_in first count k ≡ row_number_in (slice_get x.lanes.ranges.items v) k) → some_below test first count ≡ some_lane x v test
  range-lanes x v first count h = some-of first count (slice_get x.lanes.ranges.items v) h

-- the instructions that name a range
pub touched-found : (x : Table) (v first count : ℕ) (empty found : TouchList) (ids : List ℕ) → empty.ids.items ≡ [] → ((k : ℕ) → lane_in first count k ≡ row_number_in (slice_get x.lanes.ranges.items v) k) → Meets x.order.slots empty found (λ id. some_below (names_lane id x.rows.rows.items) first count) → ((id : ℕ) → has id ids ≡ has id found.ids.items) → (InLine x.order.slots found → IsStrictlySortedBy nat_cmp (map (layout_key x.order.slots) ids)) → AreTouched x v ids
touched-found x v first count empty found ids none own all same line = record {
  order = line (all.line (λ m. subst (λ xs. IsStrictlySortedBy nat_cmp (map (layout_key x.order.slots) xs)) (sym none) (sorted_from_strictly_increasing [] (λ k lt. absurd (omega arith)))));
  named = λ id. same id ∙ all.named id ∙ ap (λ xs. has id xs || some_below (names_lane id x.rows.rows.items) first count) none ∙ range-lanes (names_lane id x.rows.rows.items) x v first count own;
}

-- lanes of which none passed the test so far
pub lane-found : (test : ℕ → Bool) (first k l count : ℕ) → k < count → l ≡ first + k → test l ≡ true → true ≡ some_below test first count
lane-found test first k l zero h e holds = absurd (omega arith)
lane-found test first k l (suc n) h e holds = go (cases_lt k n) (λ lt. lane-found test first k l n lt e holds)
  where
    or-true : (t : Bool) → (t || true) ≡ true
    or-true true = refl
    or-true false = refl

    go : (k < n) ⊎ (n ≤ k) → (k < n → true ≡ some_below test first n) → true ≡ (test (first + n) || some_below test first n)
    go (inl lt) ih = sym (ap (λ t. test (first + n) || t) (sym (ih lt)) ∙ or-true (test (first + n)))
    go (inr ge) ih =
        let same : l ≡ first + n = omega (arith, h, e, ge) in
        sym (ap (λ t. t || some_below test first n) (ap test (sym same) ∙ holds))

pub lane-missed : (test : ℕ → Bool) (first k l : ℕ) → l ≡ first + k → test l ≡ false → false ≡ some_below test first k → false ≡ some_below test first (k + 1)
lane-missed test first k l e fails none = none ∙ sym (ap (some_below test first) (add-one k) ∙ ap (λ n. test n || some_below test first k) (sym e) ∙ ap (λ t. t || some_below test first k) fails)

pub lanes-missed : (test : ℕ → Bool) (first k count : ℕ) → k ≤ count → count ≤ k → false ≡ some_below test first k → false ≡ some_below test first count
lanes-missed test first k count h g none =
    let same : k ≡ count = omega arith in
    subst (λ n. false ≡ some_below test first n) same none

pub lanes-at : (x : Table) (v first count id block at rank : ℕ) → block ≡ slice_index x.order.block_of.items id → at ≡ rank → ((k : ℕ) → lane_in first count k ≡ row_number_in (slice_get x.lanes.ranges.items v) k) → some_below (λ l. row_at x.order.slots x.rows.rows.items l block at) first count ≡ some_lane x v (λ l. row_at x.order.slots x.rows.rows.items l (slice_index x.order.block_of.items id) rank)
lanes-at x v first count id block at rank there same own =
    ap (λ b. some_below (λ l. row_at x.order.slots x.rows.rows.items l b at) first count) there
    ∙ ap (λ n. some_below (λ l. row_at x.order.slots x.rows.rows.items l (slice_index x.order.block_of.items id) n) first count) same
    ∙ range-lanes (λ l. row_at x.order.slots x.rows.rows.items l (slice_index x.order.block_of.items id) rank) x v first count own
