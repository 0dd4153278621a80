-- Stretches gone through from the last to the first.
use Rattle.std.proofs.Common.{◌≡◌, ◌<◌, ◌≤◌, ℕ, zero, suc, ◌+◌, ◌-◌, Bool, true, false, cond, ◌&&◌, length, drop, get_or, List, [], ◌∷◌, ◌++◌, refl, sym, ap, ◌∙◌, subst, arith}
use Rattle.std.specs.Prelude.{◌||◌, nat_eq, nat_le, filter}
use Rattle.std.specs.List.{list_any, list_all}
use Rattle.std.proofs.lemmas.Bool.{lt-ltb, le-leb, eq-eqb}
use Rattle.std.proofs.lemmas.List.Folds.{list_any-append, list_all-append, list_any_at}
use Rattle.live_lanes.specs.declared.ask.extent.Stretch.{Stretch}
use Rattle.live_lanes.specs.Table.{Numbers}
use Rattle.live_lanes.specs.Extents.{last_rank}
use Rattle.live_lanes.proofs.Cells.{both, both-left, both-right}
use Rattle.live_lanes.proofs.Held.{or-left, or-right}
use Rattle.interference.specs.declared.held.ListPosition.{ListPosition}
use Rattle.interference.specs.declared.held.RangeExtent.{RangeExtent}
use Rattle.interference.specs.Clashes.{AreApart, begins_by, touches, is_taken_by}
use Rattle.interference.specs.Parts.{part_before, before, lies_before}
use Rattle.interference.proofs.Parts.{extent-le, apart-filter, apart-left, apart-right, behind_all, lies-low, touched, past-none, none-past, only-begun}

pub all-get : {X : Type 0} (p : X → Bool) (xs : List X) (i : ℕ) (d : X) → list_all p xs ≡ true → i < length xs → p (get_or xs i d) ≡ true
all-get p [] i d e h = absurd (omega arith)
all-get p (x ∷ xs) zero d e h = both-left (p x) (list_all p xs) e
all-get p (x ∷ xs) (suc i) d e h = all-get p xs i d (both-right (p x) (list_all p xs) e) (omega arith)

all-filter : {X : Type 0} (p : X → Bool) (xs : List X) → list_all p (filter p xs) ≡ true
all-filter p [] = refl
all-filter p (x ∷ xs) = go (p x) refl (all-filter p xs)
  where
    go : (u : Bool) → p x ≡ u → list_all p (filter p xs) ≡ true → list_all p (cond u (x ∷ filter p xs) (filter p xs)) ≡ true
    go true e ih = both (p x) (list_all p (filter p xs)) e ih
    go false e ih = ih

pub any-drop : {X : Type 0} (p : X → Bool) (xs : List X) (i : ℕ) (d : X) → i < length xs → list_any p (drop i xs) ≡ (p (get_or xs i d) || list_any p (drop (suc i) xs))
any-drop p [] i d h = absurd (omega arith)
any-drop p (x ∷ xs) zero d h = refl
any-drop p (x ∷ xs) (suc i) d h = any-drop p xs i d (omega arith)

pub none-drop : {X : Type 0} (p : X → Bool) (xs : List X) (i : ℕ) → length xs ≤ i → list_any p (drop i xs) ≡ false
none-drop p [] zero h = refl
none-drop p [] (suc i) h = refl
none-drop p (x ∷ xs) zero h = absurd (omega arith)
none-drop p (x ∷ xs) (suc i) h = none-drop p xs i (omega arith)

module _ (slots : Numbers) where
  apart-last : (n : ℕ) (hs : List RangeExtent) (i : ℕ) (d : RangeExtent) → AreApart slots n hs → i < length hs → n ≤ last_rank slots (get_or hs i d).extent
  apart-last n [] i d a h = absurd (omega arith)
  apart-last n (x ∷ xs) zero d a h = let b = a.0 in let c = extent-le slots x.extent in omega arith
  apart-last n (x ∷ xs) (suc i) d a h = let ih = apart-last (last_rank slots x.extent) xs i d a.1 (omega arith) in let b = a.0 in let c = extent-le slots x.extent in omega arith

  module _ (at : Stretch) (test : RangeExtent → Bool) where
    -- where one lies before the points, only those behind it touch some
    pub from-behind : (n : ℕ) (hs : List RangeExtent) (i : ℕ) (d : RangeExtent) → AreApart slots n hs → i < length hs → last_rank slots (get_or hs i d).extent < at.first → touched slots at test hs ≡ touched slots at test (drop (suc i) hs)
    from-behind n [] i d a h low = absurd (omega arith)
    from-behind n (x ∷ xs) zero d a h low = ap (λ b. b || touched slots at test xs) (past-none slots at test x low)
    from-behind n (x ∷ xs) (suc i) d a h low =
        let up = apart-last (last_rank slots x.extent) xs i d a.1 (omega arith) in
        ap (λ b. b || touched slots at test xs) (past-none slots at test x (omega arith)) ∙ from-behind (last_rank slots x.extent) xs i d a.1 (omega arith) low

  pub met-other : (at : Stretch) (hs : List RangeExtent) (i : ℕ) (d : RangeExtent) → list_all (begins_by slots at.last) hs ≡ true → i < length hs → at.first ≤ last_rank slots (get_or hs i d).extent → is_taken_by slots hs (get_or hs i d).range at ≡ true
  met-other at hs i d all h le =
      list_any_at (λ g. nat_eq g.range (get_or hs i d).range && touches slots at g) hs i d h
      (both (nat_eq (get_or hs i d).range (get_or hs i d).range) (touches slots at (get_or hs i d)) (eq-eqb (get_or hs i d).range (get_or hs i d).range refl)
      (both (begins_by slots at.last (get_or hs i d)) (nat_le at.first (last_rank slots (get_or hs i d).extent)) (all-get (begins_by slots at.last) hs i d all h) (le-leb at.first (last_rank slots (get_or hs i d).extent) le)))

  pub met-behind : (at : Stretch) (hs : List RangeExtent) (i : ℕ) (d : RangeExtent) → i < length hs → last_rank slots (get_or hs i d).extent < at.first → list_any (lies_before slots at.first) hs ≡ true
  met-behind at hs i d h low = list_any_at (lies_before slots at.first) hs i d h (lt-ltb (last_rank slots (get_or hs i d).extent) at.first low)

  module _ (ps : List (List RangeExtent)) (gap : ListPosition) (hs : List RangeExtent) (at : Stretch) (apart : AreApart slots 0 hs) (same : before ps gap (suc gap.part) ≡ filter (begins_by slots at.last) hs) where
    apart-all : AreApart slots 0 (before ps gap (suc gap.part))
    apart-all = subst (AreApart slots 0) (sym same) (apart-filter slots (begins_by slots at.last) 0 hs apart)

    begun-all : list_all (begins_by slots at.last) (before ps gap (suc gap.part)) ≡ true
    begun-all = ap (list_all (begins_by slots at.last)) same ∙ all-filter (begins_by slots at.last) hs

    apart-down : (i j : ℕ) → AreApart slots 0 (before ps gap (i + j)) → AreApart slots 0 (before ps gap j)
    apart-down zero j a = let e : zero + j ≡ j = omega arith in subst (λ k. AreApart slots 0 (before ps gap k)) e a
    apart-down (suc i) j a = let e : suc i + j ≡ suc (i + j) = omega arith in apart-down i j (apart-left slots 0 (before ps gap (i + j)) (part_before ps gap (i + j)) (subst (λ k. AreApart slots 0 (before ps gap k)) e a))

    begun-down : (i j : ℕ) → list_all (begins_by slots at.last) (before ps gap (i + j)) ≡ true → list_all (begins_by slots at.last) (before ps gap j) ≡ true
    begun-down zero j a = let e : zero + j ≡ j = omega arith in subst (λ k. list_all (begins_by slots at.last) (before ps gap k) ≡ true) e a
    begun-down (suc i) j a =
        let e : suc i + j ≡ suc (i + j) = omega arith in
        begun-down i j (both-left (list_all (begins_by slots at.last) (before ps gap (i + j))) (list_all (begins_by slots at.last) (part_before ps gap (i + j)))
        (sym (list_all-append (begins_by slots at.last) (before ps gap (i + j)) (part_before ps gap (i + j))) ∙ subst (λ k. list_all (begins_by slots at.last) (before ps gap k) ≡ true) e a))

    any-up : (p : RangeExtent → Bool) (i j : ℕ) → list_any p (before ps gap j) ≡ true → list_any p (before ps gap (i + j)) ≡ true
    any-up p zero j a = let e : j ≡ zero + j = omega arith in subst (λ k. list_any p (before ps gap k) ≡ true) e a
    any-up p (suc i) j a =
        let e : suc (i + j) ≡ suc i + j = omega arith in
        subst (λ k. list_any p (before ps gap k) ≡ true) e (list_any-append p (before ps gap (i + j)) (part_before ps gap (i + j)) ∙ or-left (list_any p (before ps gap (i + j))) (list_any p (part_before ps gap (i + j))) (any-up p i j a))

    pub next-apart : (j : ℕ) → j ≤ gap.part → AreApart slots 0 (before ps gap j ++ part_before ps gap j)
    next-apart j le = let e : gap.part - j + suc j ≡ suc gap.part = omega arith in apart-down (gap.part - j) (suc j) (subst (λ k. AreApart slots 0 (before ps gap k)) (sym e) apart-all)

    pub part-apart : (j : ℕ) → j ≤ gap.part → AreApart slots (behind_all slots 0 (before ps gap j)) (part_before ps gap j)
    part-apart j le = apart-right slots 0 (before ps gap j) (part_before ps gap j) (next-apart j le)

    pub part-begun : (j : ℕ) → j ≤ gap.part → list_all (begins_by slots at.last) (part_before ps gap j) ≡ true
    part-begun j le =
        let e : gap.part - j + suc j ≡ suc gap.part = omega arith in
        both-right (list_all (begins_by slots at.last) (before ps gap j)) (list_all (begins_by slots at.last) (part_before ps gap j))
        (sym (list_all-append (begins_by slots at.last) (before ps gap j) (part_before ps gap j)) ∙ begun-down (gap.part - j) (suc j) (subst (λ k. list_all (begins_by slots at.last) (before ps gap k) ≡ true) (sym e) begun-all))

    module _ (test : RangeExtent → Bool) where
      pub touched-all : touched slots at test (before ps gap (suc gap.part)) ≡ touched slots at test hs
      touched-all = ap (touched slots at test) same ∙ only-begun slots at test hs

      pub touched-step : (j : ℕ) → touched slots at test (before ps gap (suc j)) ≡ (touched slots at test (before ps gap j) || touched slots at test (part_before ps gap j))
      touched-step j = list_any-append (λ h. test h && touches slots at h) (before ps gap j) (part_before ps gap j)

      -- where one of a part lies before the points, so do all parts ahead of it
      pub none-ahead : (j : ℕ) → j ≤ gap.part → list_any (lies_before slots at.first) (part_before ps gap j) ≡ true → touched slots at test (before ps gap j) ≡ false
      none-ahead j le e = none-past slots at test 0 (before ps gap j) (apart-left slots 0 (before ps gap j) (part_before ps gap j) (next-apart j le)) (lies-low slots at.first (behind_all slots 0 (before ps gap j)) (part_before ps gap j) (part-apart j le) e)

      -- what touches in a part does so among all
      pub found-in : (j : ℕ) → j ≤ gap.part → touched slots at test (part_before ps gap j) ≡ true → touched slots at test hs ≡ true
      found-in j le e =
          let k : gap.part - j + suc j ≡ suc gap.part = omega arith in
          sym touched-all ∙ subst (λ i. touched slots at test (before ps gap i) ≡ true) k
          (any-up (λ h. test h && touches slots at h) (gap.part - j) (suc j) (touched-step j ∙ or-right (touched slots at test (before ps gap j)) (touched slots at test (part_before ps gap j)) e))

pub turned : (n q p o : Bool) → ((n && q) || ((n && p) || o)) ≡ ((n && (q || p)) || o)
turned true true p o = refl
turned true false p o = refl
turned false q p o = refl

pub or-false : (b c : Bool) → c ≡ false → (b || c) ≡ b
or-false true c e = refl
or-false false c e = e
