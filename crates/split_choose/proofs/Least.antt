-- The first of the least, element by element.
use Rattle.std.proofs.Common.{◌≡◌, ◌∙◌, ◌⊎◌, inl, inr, ℕ, zero, suc, ◌+◌, ◌<◌, ◌≤◌, List, [], ◌∷◌, ◌++◌, Bool, true, false, cond, refl, sym, ap, subst, length, take, map, get_or, arith, Option, None, Some}
use Rattle.std.specs.Prelude.{nat_lt, filter}
use Rattle.std.proofs.lemmas.Bool.{cases_lt, lt-ltb, le-ltb, ltb-true}
use Rattle.std.proofs.lemmas.List.{append-nil, take_more, map-append}
use Rattle.std.proofs.lemmas.List.Elements.{filter-append}
use Rattle.split_choose.specs.Offers.{least}

-- the better of what is there and a new one
abbrev pub better : {X : Type 0} → Option (ℕ × X) → ℕ × X → Option (ℕ × X)
better None x = Some x
better (Some y) x = cond (nat_lt x.0 y.0) (Some x) (Some y)

abbrev pub before : {X : Type 0} → ℕ × X → Option (ℕ × X) → Option (ℕ × X)
before x None = Some x
before x (Some y) = cond (nat_lt y.0 x.0) (Some y) (Some x)

module _ {X : Type 0} where
  better-less : (y z : ℕ × X) (b : Bool) → nat_lt z.0 y.0 ≡ b → better (Some y) z ≡ cond b (Some z) (Some y)
  better-less y z b e = ap (λ c. cond c (Some z) (Some y)) e

  before-less : (x y : ℕ × X) (b : Bool) → nat_lt y.0 x.0 ≡ b → before x (Some y) ≡ cond b (Some y) (Some x)
  before-less x y b e = ap (λ c. cond c (Some y) (Some x)) e

  -- x first, then y, then z
  before-better : (x z : ℕ × X) (o : Option (ℕ × X)) → before x (better o z) ≡ better (before x o) z
  before-better x z None = refl
  before-better x z (Some y) = go (cases_lt z.0 y.0) (cases_lt y.0 x.0)
    where
      left : (b : Bool) → nat_lt z.0 y.0 ≡ b → before x (better (Some y) z) ≡ before x (cond b (Some z) (Some y))
      left b e = ap (before x) (better-less y z b e)

      right : (b : Bool) → nat_lt y.0 x.0 ≡ b → better (before x (Some y)) z ≡ better (cond b (Some y) (Some x)) z
      right b e = ap (λ o. better o z) (before-less x y b e)

      go : (z.0 < y.0) ⊎ (y.0 ≤ z.0) → (y.0 < x.0) ⊎ (x.0 ≤ y.0) → before x (better (Some y) z) ≡ better (before x (Some y)) z
      go (inl a) (inl b) = left true (lt-ltb z.0 y.0 a) ∙ (before-less x z true (lt-ltb z.0 x.0 (omega arith)) ∙ sym (right true (lt-ltb y.0 x.0 b) ∙ better-less y z true (lt-ltb z.0 y.0 a)))
      go (inl a) (inr b) = left true (lt-ltb z.0 y.0 a) ∙ sym (right false (le-ltb y.0 x.0 b))
      go (inr a) (inl b) = left false (le-ltb z.0 y.0 a) ∙ (before-less x y true (lt-ltb y.0 x.0 b) ∙ sym (right true (lt-ltb y.0 x.0 b) ∙ better-less y z false (le-ltb z.0 y.0 a)))
      go (inr a) (inr b) = left false (le-ltb z.0 y.0 a) ∙ (before-less x y false (le-ltb y.0 x.0 b) ∙ sym (right false (le-ltb y.0 x.0 b) ∙ better-less x z false (le-ltb z.0 x.0 (omega arith))))

  pub least-push : (xs : List (ℕ × X)) (z : ℕ × X) → least (xs ++ z ∷ []) ≡ better (least xs) z
  least-push [] z = refl
  least-push (x ∷ xs) z = ap (before x) (least-push xs z) ∙ before-better x z (least xs)

-- What is best so far of things with costs below a bound: its cost is the bound for those behind it.

abbrev pub bounded : {X : Type 0} → ℕ → Option (ℕ × X) → ℕ
bounded top None = top
bounded top (Some y) = y.0

module _ {X : Type 0} (cost : X → ℕ) (top : ℕ) where
  -- those that cost less, with their costs
  abbrev pub priced : List X → List (ℕ × X)
  priced xs = filter (λ c. nat_lt c.0 top) (map (λ x. (cost x, x)) xs)

  priced-push : (xs : List X) (x : X) → priced (xs ++ x ∷ []) ≡ priced xs ++ cond (nat_lt (cost x) top) ((cost x, x) ∷ []) []
  priced-push xs x = ap (filter (λ c. nat_lt c.0 top)) (map-append (λ y. (cost y, y)) xs (x ∷ [])) ∙ filter-append (λ c. nat_lt c.0 top) (map (λ y. (cost y, y)) xs) ((cost x, x) ∷ [])

  more : (xs : List X) (k : ℕ) (x : X) → k < length xs → x ≡ get_or xs k x → priced (take (k + 1) xs) ≡ priced (take k xs) ++ cond (nat_lt (cost x) top) ((cost x, x) ∷ []) []
  more xs k x h at = ap priced (take_more xs k x h ∙ ap (λ y. take k xs ++ y ∷ []) (sym at)) ∙ priced-push (take k xs) x

  best : List X → Option (ℕ × X)
  best xs = least (priced xs)

  bounded-low : (xs : List X) → bounded top (least (priced xs)) ≤ top
  bounded-low [] = omega arith
  bounded-low (x ∷ xs) = go (cases_lt (cost x) top) (bounded-low xs)
    where
      there : (o : Option (ℕ × X)) → cost x < top → bounded top o ≤ top → bounded top (before (cost x, x) o) ≤ top
      there None lt h = omega arith
      there (Some y) lt h = by_cost (nat_lt y.0 (cost x))
        where
          by_cost : (b : Bool) → bounded top (cond b (Some y) (Some (cost x, x))) ≤ top
          by_cost true = h
          by_cost false = omega arith

      go : (cost x < top) ⊎ (top ≤ cost x) → bounded top (least (priced xs)) ≤ top → bounded top (least (priced (x ∷ xs))) ≤ top
      go (inl lt) h = let P : Bool → Type 0 = λ b. bounded top (least (cond b ((cost x, x) ∷ priced xs) (priced xs))) ≤ top in subst P (sym (lt-ltb (cost x) top lt)) (there (least (priced xs)) lt h)
      go (inr le) h = let P : Bool → Type 0 = λ b. bounded top (least (cond b ((cost x, x) ∷ priced xs) (priced xs))) ≤ top in subst P (sym (le-ltb (cost x) top le)) h

  taken : (o : Option (ℕ × X)) (x : ℕ × X) → x.0 < bounded top o → better o x ≡ Some x
  taken None x h = refl
  taken (Some y) x h = better-less y x true (lt-ltb x.0 y.0 h)

  passed : (y x : ℕ × X) → y.0 ≤ x.0 → better (Some y) x ≡ Some y
  passed y x h = better-less y x false (le-ltb x.0 y.0 h)

  module _ (xs : List X) (k : ℕ) (x : X) (h : k < length xs) (at : x ≡ get_or xs k x) where
    pub best-taken : cost x < bounded top (least (priced (take k xs))) → least (priced (take (k + 1) xs)) ≡ Some (cost x, x)
    best-taken lt =
        let low = bounded-low (take k xs) in
        ap least (more xs k x h at ∙ ap (λ b. priced (take k xs) ++ cond b ((cost x, x) ∷ []) []) (lt-ltb (cost x) top (omega arith)))
        ∙ (least-push (priced (take k xs)) (cost x, x) ∙ taken (least (priced (take k xs))) (cost x, x) lt)

    pub best-passed : bounded top (least (priced (take k xs))) ≤ cost x → least (priced (take (k + 1) xs)) ≡ least (priced (take k xs))
    best-passed le = ap least (more xs k x h at) ∙ go (cases_lt (cost x) top)
      where
        kept : (o : Option (ℕ × X)) → cost x < top → bounded top o ≤ cost x → better o (cost x, x) ≡ o
        kept None lt le = absurd (omega arith)
        kept (Some y) lt le = passed y (cost x, x) le

        go : (cost x < top) ⊎ (top ≤ cost x) → least (priced (take k xs) ++ cond (nat_lt (cost x) top) ((cost x, x) ∷ []) []) ≡ least (priced (take k xs))
        go (inl lt) = ap (λ b. least (priced (take k xs) ++ cond b ((cost x, x) ∷ []) [])) (lt-ltb (cost x) top lt) ∙ (least-push (priced (take k xs)) (cost x, x) ∙ kept (least (priced (take k xs))) lt le)
        go (inr high) = ap (λ b. least (priced (take k xs) ++ cond b ((cost x, x) ∷ []) [])) (le-ltb (cost x) top high) ∙ ap least (append-nil (priced (take k xs)))

-- equal costs below equal bounds
pub priced-same : {X : Type 0} (c d : X → ℕ) (top bound : ℕ) → top ≡ bound → ((x : X) → c x ≡ d x) → (xs : List X) → priced c top xs ≡ priced d bound xs
priced-same c d top bound e same [] = refl
priced-same c d top bound e same (x ∷ xs) =
    ap (λ n. cond (nat_lt n top) ((n, x) ∷ priced c top xs) (priced c top xs)) (same x)
    ∙ (ap (λ n. cond (nat_lt (d x) n) ((d x, x) ∷ priced c top xs) (priced c top xs)) e
    ∙ ap (λ ys. cond (nat_lt (d x) bound) ((d x, x) ∷ ys) ys) (priced-same c d top bound e same xs))
