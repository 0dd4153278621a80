-- What a range and what others hold by a list, where a stretch is put in or taken out.
use Rattle.std.proofs.Common.{◌≡◌, ◌<◌, ◌≤◌, ℕ, suc, Bool, true, false, cond, not, ◌&&◌, length, List, [], ◌∷◌, ◌++◌, Option, refl, sym, ap, ◌∙◌, subst, arith, append-nil}
use Rattle.std.specs.Prelude.{◌||◌, nat_eq, nat_lt, nat_le, filter}
use Rattle.std.specs.List.{list_any, list_all}
use Rattle.std.proofs.lemmas.Bool.{leb-true, leb-false, ltb-true, lt-ltb, le-leb, eqb-true, eq-eqb}
use Rattle.std.proofs.lemmas.List.{append_cancel_left}
use Rattle.std.proofs.lemmas.List.Elements.{filter-append}
use Rattle.live_lanes.specs.declared.ask.extent.Extent.{Extent}
use Rattle.live_lanes.specs.declared.ask.extent.Stretch.{Stretch}
use Rattle.live_lanes.specs.Table.{Numbers}
use Rattle.live_lanes.specs.Extents.{begins_with, first_rank, last_rank, stretch_of}
use Rattle.live_lanes.proofs.Cells.{both, both-left, both-right}
use Rattle.live_lanes.proofs.Held.{or-none, le-false}
use Rattle.interference.specs.declared.held.RangeExtent.{RangeExtent}
use Rattle.interference.specs.Clashes.{AreApart, AreKnown, begins_by, touches, is_taken}
use Rattle.interference.specs.Changes.{is_piece, others_of, own_of, starting, IsCut, IsInserted}
use Rattle.interference.proofs.Parts.{extent-le, and-left-none}

any-left : (a b : Bool) → (a || b) ≡ false → a ≡ false
any-left true b e = e
any-left false b e = refl

any-right : (a b : Bool) → (a || b) ≡ false → b ≡ false
any-right true b e = absurd (cc)
any-right false b e = e

abbrev is_other : ℕ → RangeExtent → Bool
is_other v h = not (nat_eq h.range v)

-- without a stretch

module _ (v : ℕ) (start : Option ℕ) where
  abbrev spared : RangeExtent → Bool
  spared h = not (is_piece v start h)

  spare-other : (h : RangeExtent) → nat_eq h.range v ≡ false → spared h ≡ true
  spare-other h e = ap not (and-left-none (nat_eq h.range v) (begins_with start h.extent) e)

  spare-own : (h : RangeExtent) → nat_eq h.range v ≡ true → spared h ≡ not (begins_with start h.extent)
  spare-own h e = ap (λ b. not (b && begins_with start h.extent)) e

  pub others-spared : (hs : List RangeExtent) → others_of v (filter spared hs) ≡ others_of v hs
  others-spared [] = refl
  others-spared (h ∷ hs) = go (nat_eq h.range v) refl (others-spared hs)
    where
      kept : (u : Bool) → nat_eq h.range v ≡ true → others_of v (filter spared hs) ≡ others_of v hs → others_of v (cond u (h ∷ filter spared hs) (filter spared hs)) ≡ others_of v hs
      kept true e ih = ap (λ b. cond (not b) (h ∷ others_of v (filter spared hs)) (others_of v (filter spared hs))) e ∙ ih
      kept false e ih = ih

      go : (u : Bool) → nat_eq h.range v ≡ u → others_of v (filter spared hs) ≡ others_of v hs → others_of v (cond (spared h) (h ∷ filter spared hs) (filter spared hs)) ≡ others_of v (h ∷ hs)
      go true e ih = kept (spared h) e ih ∙ sym (ap (λ b. cond (not b) (h ∷ others_of v hs) (others_of v hs)) e)
      go false e ih =
          ap (λ b. others_of v (cond b (h ∷ filter spared hs) (filter spared hs))) (spare-other h e)
          ∙ ap (λ xs. cond (not (nat_eq h.range v)) (h ∷ xs) xs) ih

  pub own-spared : (hs : List RangeExtent) → own_of v (filter spared hs) ≡ filter (λ e. not (begins_with start e)) (own_of v hs)
  own-spared [] = refl
  own-spared (h ∷ hs) = go (nat_eq h.range v) refl (own-spared hs)
    where
      kept : (u : Bool) → nat_eq h.range v ≡ true → own_of v (filter spared hs) ≡ filter (λ e. not (begins_with start e)) (own_of v hs) → own_of v (cond u (h ∷ filter spared hs) (filter spared hs)) ≡ cond u (h.extent ∷ filter (λ e. not (begins_with start e)) (own_of v hs)) (filter (λ e. not (begins_with start e)) (own_of v hs))
      kept true e ih = ap (λ b. cond b (h.extent ∷ own_of v (filter spared hs)) (own_of v (filter spared hs))) e ∙ ap (λ xs. h.extent ∷ xs) ih
      kept false e ih = ih

      go : (u : Bool) → nat_eq h.range v ≡ u → own_of v (filter spared hs) ≡ filter (λ e. not (begins_with start e)) (own_of v hs)
          → own_of v (cond (spared h) (h ∷ filter spared hs) (filter spared hs)) ≡ filter (λ e. not (begins_with start e)) (own_of v (h ∷ hs))
      go true e ih =
          kept (spared h) e ih
          ∙ ap (λ b. cond b (h.extent ∷ filter (λ e. not (begins_with start e)) (own_of v hs)) (filter (λ e. not (begins_with start e)) (own_of v hs))) (spare-own h e)
          ∙ sym (ap (λ b. filter (λ e. not (begins_with start e)) (cond b (h.extent ∷ own_of v hs) (own_of v hs))) e)
      go false e ih =
          ap (λ b. own_of v (cond b (h ∷ filter spared hs) (filter spared hs))) (spare-other h e)
          ∙ ap (λ b. cond b (h.extent ∷ own_of v (filter spared hs)) (own_of v (filter spared hs))) e
          ∙ ih ∙ sym (ap (λ b. filter (λ e. not (begins_with start e)) (cond b (h.extent ∷ own_of v hs) (own_of v hs))) e)

  spare-all : (hs : List RangeExtent) → list_any (is_piece v start) hs ≡ false → filter spared hs ≡ hs
  spare-all [] e = refl
  spare-all (h ∷ hs) e =
      ap (λ b. cond (not b) (h ∷ filter spared hs) (filter spared hs)) (any-left (is_piece v start h) (list_any (is_piece v start) hs) e)
      ∙ ap (λ xs. h ∷ xs) (spare-all hs (any-right (is_piece v start h) (list_any (is_piece v start) hs) e))

  pub spare-absent : (hs ns : List RangeExtent) → list_any (is_piece v start) hs ≡ false → ns ≡ hs → ns ≡ filter spared hs
  spare-absent hs ns e same = same ∙ sym (spare-all hs e)

  -- a list in which none begins so has no such stretch
  none-piece : (hs : List RangeExtent) → starting start (own_of v hs) ≤ 0 → list_any (is_piece v start) hs ≡ false
  none-piece [] z = refl
  none-piece (h ∷ hs) z = go (nat_eq h.range v) (begins_with start h.extent) refl refl z (none-piece hs)
    where
      go : (a b : Bool) → nat_eq h.range v ≡ a → begins_with start h.extent ≡ b → starting start (cond a (h.extent ∷ own_of v hs) (own_of v hs)) ≤ 0 → (starting start (own_of v hs) ≤ 0 → list_any (is_piece v start) hs ≡ false) → list_any (is_piece v start) (h ∷ hs) ≡ false
      go true true e f w ih = absurd (let q : cond (begins_with start h.extent) (suc (starting start (own_of v hs))) (starting start (own_of v hs)) ≡ suc (starting start (own_of v hs)) = ap (λ b. cond b (suc (starting start (own_of v hs))) (starting start (own_of v hs))) f in omega arith)
      go true false e f w ih =
          let q : cond (begins_with start h.extent) (suc (starting start (own_of v hs))) (starting start (own_of v hs)) ≡ starting start (own_of v hs) = ap (λ b. cond b (suc (starting start (own_of v hs))) (starting start (own_of v hs))) f in
          or-none (is_piece v start h) (list_any (is_piece v start) hs) (ap (λ b. nat_eq h.range v && b) f ∙ ap (λ b. b && false) e) (ih (omega arith))
      go false b e f w ih = or-none (is_piece v start h) (list_any (is_piece v start) hs) (and-left-none (nat_eq h.range v) (begins_with start h.extent) e) (ih w)

  -- where one stands once, all but it are spared
  pub spare-cut : (h : RangeExtent) (front rest : List RangeExtent) → is_piece v start h ≡ true → starting start (own_of v (front ++ h ∷ rest)) ≤ 1 → front ++ rest ≡ filter spared (front ++ h ∷ rest)
  spare-cut h [] rest p one =
      let own : nat_eq h.range v ≡ true = both-left (nat_eq h.range v) (begins_with start h.extent) p in
      let begins : begins_with start h.extent ≡ true = both-right (nat_eq h.range v) (begins_with start h.extent) p in
      let count : starting start (own_of v (h ∷ rest)) ≡ suc (starting start (own_of v rest)) = ap (λ b. starting start (cond b (h.extent ∷ own_of v rest) (own_of v rest))) own ∙ ap (λ b. cond b (suc (starting start (own_of v rest))) (starting start (own_of v rest))) begins in
      sym (ap (λ b. cond (not b) (h ∷ filter spared rest) (filter spared rest)) p ∙ spare-all rest (none-piece rest (omega arith)))
  spare-cut h (x ∷ front) rest p one = go (nat_eq x.range v) (begins_with start x.extent) refl refl one (spare-cut h front rest p)
    where
      stands : (xs : List RangeExtent) → list_any (is_piece v start) (xs ++ h ∷ rest) ≡ true
      stands [] = ap (λ b. b || list_any (is_piece v start) rest) p
      stands (y ∷ ys) = last (is_piece v start y) (list_any (is_piece v start) (ys ++ h ∷ rest)) (stands ys)
        where
          last : (a b : Bool) → b ≡ true → (a || b) ≡ true
          last true b e = refl
          last false b e = e

      go : (a b : Bool) → nat_eq x.range v ≡ a → begins_with start x.extent ≡ b → starting start (cond a (x.extent ∷ own_of v (front ++ h ∷ rest)) (own_of v (front ++ h ∷ rest))) ≤ 1
          → (starting start (own_of v (front ++ h ∷ rest)) ≤ 1 → front ++ rest ≡ filter spared (front ++ h ∷ rest)) → x ∷ (front ++ rest) ≡ filter spared (x ∷ (front ++ h ∷ rest))
      go true true e f w ih = absurd (
          let q : cond (begins_with start x.extent) (suc (starting start (own_of v (front ++ h ∷ rest)))) (starting start (own_of v (front ++ h ∷ rest))) ≡ suc (starting start (own_of v (front ++ h ∷ rest))) = ap (λ b. cond b (suc (starting start (own_of v (front ++ h ∷ rest)))) (starting start (own_of v (front ++ h ∷ rest)))) f in
          let z : list_any (is_piece v start) (front ++ h ∷ rest) ≡ false = none-piece (front ++ h ∷ rest) (omega arith) in
          let y = stands front in cc)
      go true false e f w ih =
          let q : cond (begins_with start x.extent) (suc (starting start (own_of v (front ++ h ∷ rest)))) (starting start (own_of v (front ++ h ∷ rest))) ≡ starting start (own_of v (front ++ h ∷ rest)) = ap (λ b. cond b (suc (starting start (own_of v (front ++ h ∷ rest)))) (starting start (own_of v (front ++ h ∷ rest)))) f in
          ap (λ xs. x ∷ xs) (ih (omega arith)) ∙ sym (ap (λ b. cond b (x ∷ filter spared (front ++ h ∷ rest)) (filter spared (front ++ h ∷ rest))) (spare-own x e ∙ ap not f))
      go false b e f w ih = ap (λ xs. x ∷ xs) (ih w) ∙ sym (ap (λ b. cond b (x ∷ filter spared (front ++ h ∷ rest)) (filter spared (front ++ h ∷ rest))) (spare-other x e))

  pub spare-taken : (h : RangeExtent) (hs ns : List RangeExtent) → is_piece v start h ≡ true → IsCut h hs ns → starting start (own_of v hs) ≤ 1 → ns ≡ filter spared hs
  spare-taken h hs ns p cut one =
      cut.is ∙ spare-cut h cut.front cut.rest p (subst (λ xs. starting start (own_of v xs) ≤ 1) cut.was one) ∙ ap (filter spared) (sym cut.was)

-- with one more stretch

pub own-append : (v : ℕ) (xs ys : List RangeExtent) → own_of v (xs ++ ys) ≡ own_of v xs ++ own_of v ys
own-append v [] ys = refl
own-append v (x ∷ xs) ys = go (nat_eq x.range v) (own-append v xs ys)
  where
    go : (u : Bool) → own_of v (xs ++ ys) ≡ own_of v xs ++ own_of v ys → cond u (x.extent ∷ own_of v (xs ++ ys)) (own_of v (xs ++ ys)) ≡ cond u (x.extent ∷ own_of v xs) (own_of v xs) ++ own_of v ys
    go true ih = ap (λ es. x.extent ∷ es) ih
    go false ih = ih

filter-twice : {X : Type 0} (p : X → Bool) (xs : List X) → filter p (filter p xs) ≡ filter p xs
filter-twice p [] = refl
filter-twice p (x ∷ xs) = go (p x) refl (filter-twice p xs)
  where
    go : (u : Bool) → p x ≡ u → filter p (filter p xs) ≡ filter p xs → filter p (cond u (x ∷ filter p xs) (filter p xs)) ≡ cond u (x ∷ filter p xs) (filter p xs)
    go true e ih = ap (λ b. cond b (x ∷ filter p (filter p xs)) (filter p (filter p xs))) e ∙ ap (λ ys. x ∷ ys) ih
    go false e ih = ih

-- what stands behind those that pass passes nowhere
pub rest-none : {X : Type 0} (p : X → Bool) (xs rest : List X) → xs ≡ filter p xs ++ rest → filter p rest ≡ []
rest-none p xs rest e = append_cancel_left (filter p xs) (filter p rest) []
    (ap (λ ys. ys ++ filter p rest) (sym (filter-twice p xs)) ∙ sym (filter-append p (filter p xs) rest) ∙ sym (ap (filter p) e) ∙ sym (append-nil (filter p xs)))

none-first : {X : Type 0} (p : X → Bool) (x : X) (xs : List X) → filter p (x ∷ xs) ≡ [] → (p x ≡ false) × (filter p xs ≡ [])
none-first p x xs e = go (p x) refl e
  where
    go : (u : Bool) → p x ≡ u → cond u (x ∷ filter p xs) (filter p xs) ≡ [] → (p x ≡ false) × (filter p xs ≡ [])
    go true f g = absurd (cc)
    go false f g = (f, g)

module _ (slots : Numbers) (e : Extent) where
  abbrev first : ℕ
  first = first_rank slots e

  abbrev last : ℕ
  last = last_rank slots e

  -- it ends by the first point of the extent, or begins behind its last one
  abbrev pub fits : RangeExtent → Bool
  fits h = nat_le (last_rank slots h.extent) first || nat_lt last (first_rank slots h.extent)

  abbrev pub ends_by : Extent → Bool
  ends_by x = nat_le (last_rank slots x) first

  fits-begun : (h : RangeExtent) → fits h ≡ true → begins_by slots first h ≡ true → last_rank slots h.extent ≤ first
  fits-begun h f b = go (nat_le (last_rank slots h.extent) first) refl f
    where
      go : (u : Bool) → nat_le (last_rank slots h.extent) first ≡ u → (u || nat_lt last (first_rank slots h.extent)) ≡ true → last_rank slots h.extent ≤ first
      go true g w = leb-true (last_rank slots h.extent) first g
      go false g w = absurd (let begun = leb-true (first_rank slots h.extent) first b in let z = ltb-true last (first_rank slots h.extent) w in let c = extent-le slots e in omega arith)

  fits-late : (h : RangeExtent) → fits h ≡ true → begins_by slots first h ≡ false → last ≤ first_rank slots h.extent
  fits-late h f b = go (nat_le (last_rank slots h.extent) first) refl
    where
      go : (u : Bool) → nat_le (last_rank slots h.extent) first ≡ u → last ≤ first_rank slots h.extent
      go true g = absurd (let z = leb-true (last_rank slots h.extent) first g in let w = leb-false (first_rank slots h.extent) first b in let c = extent-le slots h.extent in omega arith)
      go false g =
          let k : nat_lt last (first_rank slots h.extent) ≡ true = sym (ap (λ u. u || nat_lt last (first_rank slots h.extent)) g) ∙ f in
          let z = ltb-true last (first_rank slots h.extent) k in omega arith

  -- put behind those that begin by its first point, it stands apart from the others
  rest-apart : (n : ℕ) (rest : List RangeExtent) → AreApart slots n rest → list_all fits rest ≡ true → filter (begins_by slots first) rest ≡ [] → AreApart slots last rest
  rest-apart n [] a f b = tt
  rest-apart n (h ∷ hs) a f b =
      let late = none-first (begins_by slots first) h hs b in
      (fits-late h (both-left (fits h) (list_all fits hs) f) late.0, a.1)

  pub put-apart : (n : ℕ) (h : RangeExtent) (front rest : List RangeExtent) → h.extent ≡ e → n ≤ first → AreApart slots n (front ++ rest) → list_all fits (front ++ rest) ≡ true → filter (begins_by slots first) front ≡ front → filter (begins_by slots first) rest ≡ [] → AreApart slots n (front ++ h ∷ rest)
  put-apart n h [] rest same le a f b l = (subst (λ x. n ≤ first_rank slots x) (sym same) le, subst (λ x. AreApart slots (last_rank slots x) rest) (sym same) (rest-apart n rest a f l))
  put-apart n h (x ∷ front) rest same le a f b l =
      let fit = both-left (fits x) (list_all fits (front ++ rest)) f in
      let begun = kept x front b in
      (a.0, put-apart (last_rank slots x.extent) h front rest same (fits-begun x fit begun.0) a.1 (both-right (fits x) (list_all fits (front ++ rest)) f) begun.1 l)
    where
      short : (ys : List RangeExtent) → length (filter (begins_by slots first) ys) ≤ length ys
      short [] = omega arith
      short (y ∷ ys) = go (begins_by slots first y) (short ys)
        where
          go : (u : Bool) → length (filter (begins_by slots first) ys) ≤ length ys → length (cond u (y ∷ filter (begins_by slots first) ys) (filter (begins_by slots first) ys)) ≤ suc (length ys)
          go true s = omega arith
          go false s = omega arith

      kept : (y : RangeExtent) (ys : List RangeExtent) → filter (begins_by slots first) (y ∷ ys) ≡ y ∷ ys → (begins_by slots first y ≡ true) × (filter (begins_by slots first) ys ≡ ys)
      kept y ys g = go (begins_by slots first y) refl g
        where
          go : (u : Bool) → begins_by slots first y ≡ u → cond u (y ∷ filter (begins_by slots first) ys) (filter (begins_by slots first) ys) ≡ y ∷ ys → (begins_by slots first y ≡ true) × (filter (begins_by slots first) ys ≡ ys)
          go true p w = (p, cc)
          go false p w = absurd (let z : length (filter (begins_by slots first) ys) ≡ suc (length ys) = ap length w in let s = short ys in omega arith)

  -- what others hold is clear of it, and what its range holds ends by its first point
  pub all-fit : (v : ℕ) (hs : List RangeExtent) → is_taken slots hs v (stretch_of slots e) ≡ false → list_all ends_by (own_of v hs) ≡ true → list_all fits hs ≡ true
  all-fit v [] t o = refl
  all-fit v (h ∷ hs) t o = go (nat_eq h.range v) refl o (λ k. all-fit v hs clear k)
    where
      clear : is_taken slots hs v (stretch_of slots e) ≡ false
      clear = any-right (not (nat_eq h.range v) && touches slots (stretch_of slots e) h) (is_taken slots hs v (stretch_of slots e)) t

      apart : touches slots (stretch_of slots e) h ≡ false → fits h ≡ true
      apart f = split (nat_le (first_rank slots h.extent) last) refl f
        where
          right-of : (a b : Bool) → b ≡ true → (a || b) ≡ true
          right-of true b g = refl
          right-of false b g = g

          left-of : (a b : Bool) → a ≡ true → (a || b) ≡ true
          left-of true b g = refl
          left-of false b g = absurd (cc)

          split : (u : Bool) → nat_le (first_rank slots h.extent) last ≡ u → (u && nat_le first (last_rank slots h.extent)) ≡ false → fits h ≡ true
          split true g w = left-of (nat_le (last_rank slots h.extent) first) (nat_lt last (first_rank slots h.extent)) (let z = leb-false first (last_rank slots h.extent) w in le-leb (last_rank slots h.extent) first (omega arith))
          split false g w = right-of (nat_le (last_rank slots h.extent) first) (nat_lt last (first_rank slots h.extent)) (let z = leb-false (first_rank slots h.extent) last g in lt-ltb last (first_rank slots h.extent) (omega arith))

      mine : ends_by h.extent ≡ true → fits h ≡ true
      mine g = ap (λ u. u || nat_lt last (first_rank slots h.extent)) g

      go : (u : Bool) → nat_eq h.range v ≡ u → list_all ends_by (cond u (h.extent ∷ own_of v hs) (own_of v hs)) ≡ true → (list_all ends_by (own_of v hs) ≡ true → list_all fits hs ≡ true) → (fits h && list_all fits hs) ≡ true
      go true p w ih = both (fits h) (list_all fits hs) (mine (both-left (ends_by h.extent) (list_all ends_by (own_of v hs)) w)) (ih (both-right (ends_by h.extent) (list_all ends_by (own_of v hs)) w))
      go false p w ih =
          both (fits h) (list_all fits hs)
          (apart (sym (ap (λ u. not u && touches slots (stretch_of slots e) h) p) ∙ any-left (not (nat_eq h.range v) && touches slots (stretch_of slots e) h) (is_taken slots hs v (stretch_of slots e)) t))
          (ih w)

  -- what its range holds stands before it
  own-late : (v : ℕ) (rest : List RangeExtent) → list_all ends_by (own_of v rest) ≡ true → filter (begins_by slots first) rest ≡ [] → own_of v rest ≡ []
  own-late v [] o l = refl
  own-late v (h ∷ hs) o l = go (nat_eq h.range v) refl o (none-first (begins_by slots first) h hs l) (λ a b. own-late v hs a b)
    where
      go : (u : Bool) → nat_eq h.range v ≡ u → list_all ends_by (cond u (h.extent ∷ own_of v hs) (own_of v hs)) ≡ true → (begins_by slots first h ≡ false) × (filter (begins_by slots first) hs ≡ []) → (list_all ends_by (own_of v hs) ≡ true → filter (begins_by slots first) hs ≡ [] → own_of v hs ≡ []) → cond u (h.extent ∷ own_of v hs) (own_of v hs) ≡ []
      go true p w (late, more) ih = absurd (
          let z = leb-true (last_rank slots h.extent) first (both-left (ends_by h.extent) (list_all ends_by (own_of v hs)) w) in
          let y = leb-false (first_rank slots h.extent) first late in
          let c = extent-le slots h.extent in omega arith)
      go false p w (late, more) ih = ih w more

all-right : {X : Type 0} (p : X → Bool) (xs ys : List X) → list_all p (xs ++ ys) ≡ true → list_all p ys ≡ true
all-right p [] ys e = e
all-right p (x ∷ xs) ys e = all-right p xs ys (both-right (p x) (list_all p (xs ++ ys)) e)

-- what is put in is added to what its range holds; what others hold stays
module _ (slots : Numbers) (v : ℕ) (e : Extent) (hs ns : List RangeExtent) (put : IsInserted (filter (begins_by slots (first_rank slots e)) hs) (record { range = v; extent = e }) hs ns) (apart : AreApart slots 0 hs) (clear : is_taken slots hs v (stretch_of slots e) ≡ false) (ends : list_all (ends_by slots e) (own_of v hs) ≡ true) where
  abbrev front : List RangeExtent
  front = filter (begins_by slots (first_rank slots e)) hs

  self-same : nat_eq v v ≡ true
  self-same = eq-eqb v v refl

  late : filter (begins_by slots (first_rank slots e)) put.rest ≡ []
  late = rest-none (begins_by slots (first_rank slots e)) hs put.rest put.was

  pub apart-put : AreApart slots 0 ns
  apart-put = subst (AreApart slots 0) (sym put.is)
      (put-apart slots e 0 (record { range = v; extent = e }) front put.rest refl (omega arith) (subst (AreApart slots 0) put.was apart) (ap (list_all (fits slots e)) (sym put.was) ∙ all-fit slots e v hs clear ends) (filter-twice (begins_by slots (first_rank slots e)) hs) late)

  pub others-put : others_of v ns ≡ others_of v hs
  others-put =
      ap (others_of v) put.is ∙ filter-append (is_other v) front (record { range = v; extent = e } ∷ put.rest)
      ∙ ap (λ b. others_of v front ++ cond (not b) (record { range = v; extent = e } ∷ others_of v put.rest) (others_of v put.rest)) self-same
      ∙ sym (filter-append (is_other v) front put.rest) ∙ ap (others_of v) (sym put.was)

  pub own-put : own_of v ns ≡ own_of v hs ++ e ∷ []
  own-put =
      let none : own_of v put.rest ≡ [] = own-late slots e v put.rest (all-right (ends_by slots e) (own_of v front) (own_of v put.rest) (ap (list_all (ends_by slots e)) (sym (own-append v front put.rest) ∙ ap (own_of v) (sym put.was)) ∙ ends)) late in
      ap (own_of v) put.is ∙ own-append v front (record { range = v; extent = e } ∷ put.rest)
      ∙ ap (λ b. own_of v front ++ cond b (e ∷ own_of v put.rest) (own_of v put.rest)) self-same
      ∙ ap (λ es. own_of v front ++ e ∷ es) none
      ∙ ap (λ es. es ++ e ∷ []) (sym (append-nil (own_of v front)) ∙ ap (λ es. own_of v front ++ es) (sym none) ∙ sym (own-append v front put.rest) ∙ ap (own_of v) (sym put.was))

-- what others hold tells whether points are taken
pub taken-others : (slots : Numbers) (v : ℕ) (at : Stretch) (hs : List RangeExtent) → is_taken slots (others_of v hs) v at ≡ is_taken slots hs v at
taken-others slots v at [] = refl
taken-others slots v at (h ∷ hs) = go (nat_eq h.range v) refl (taken-others slots v at hs)
  where
    go : (u : Bool) → nat_eq h.range v ≡ u → is_taken slots (others_of v hs) v at ≡ is_taken slots hs v at → is_taken slots (cond (not u) (h ∷ others_of v hs) (others_of v hs)) v at ≡ ((not (nat_eq h.range v) && touches slots at h) || is_taken slots hs v at)
    go true e ih = ih ∙ sym (ap (λ b. (not b && touches slots at h) || is_taken slots hs v at) e)
    go false e ih = ap (λ b. (not (nat_eq h.range v) && touches slots at h) || b) ih

pub others-twice : (v : ℕ) (hs : List RangeExtent) → others_of v (others_of v hs) ≡ others_of v hs
others-twice v hs = filter-twice (is_other v) hs

-- where a range holds nothing, all is held by others
pub only-others : (v : ℕ) (hs : List RangeExtent) → own_of v hs ≡ [] → others_of v hs ≡ hs
only-others v [] e = refl
only-others v (h ∷ hs) e = go (nat_eq h.range v) refl e (λ k. only-others v hs k)
  where
    go : (u : Bool) → nat_eq h.range v ≡ u → cond u (h.extent ∷ own_of v hs) (own_of v hs) ≡ [] → (own_of v hs ≡ [] → others_of v hs ≡ hs) → cond (not u) (h ∷ others_of v hs) (others_of v hs) ≡ h ∷ hs
    go true p f ih = absurd (cc)
    go false p f ih = ap (λ xs. h ∷ xs) (ih f)

-- what another range holds is the same among others
pub own-others : (v w : ℕ) (hs : List RangeExtent) → nat_eq w v ≡ false → own_of w (others_of v hs) ≡ own_of w hs
own-others v w [] ne = refl
own-others v w (h ∷ hs) ne = go (nat_eq h.range v) refl (own-others v w hs ne)
  where
    skip : nat_eq h.range v ≡ true → (u : Bool) → nat_eq h.range w ≡ u → cond u (h.extent ∷ own_of w hs) (own_of w hs) ≡ own_of w hs
    skip e true f = absurd (let a = eqb-true h.range v e in let b = eqb-true h.range w f in let z : nat_eq w v ≡ true = eq-eqb w v (sym b ∙ a) in cc)
    skip e false f = refl

    go : (u : Bool) → nat_eq h.range v ≡ u → own_of w (others_of v hs) ≡ own_of w hs → own_of w (cond (not u) (h ∷ others_of v hs) (others_of v hs)) ≡ own_of w (h ∷ hs)
    go true e ih = ih ∙ sym (skip e (nat_eq h.range w) refl)
    go false e ih = ap (λ es. cond (nat_eq h.range w) (h.extent ∷ es) es) ih

-- others and what a range holds tell of all stretches
pub known-both : (n v : ℕ) (hs : List RangeExtent) → v < n → AreKnown n (others_of v hs) → AreKnown n hs
known-both n v [] lt k = refl
known-both n v (h ∷ hs) lt k = go (nat_eq h.range v) refl k (known-both n v hs lt)
  where
    go : (u : Bool) → nat_eq h.range v ≡ u → AreKnown n (cond (not u) (h ∷ others_of v hs) (others_of v hs)) → (AreKnown n (others_of v hs) → AreKnown n hs) → AreKnown n (h ∷ hs)
    go true e w ih = let same = eqb-true h.range v e in or-none (nat_le n h.range) (list_any (λ g. nat_le n g.range) hs) (le-false n h.range (omega arith)) (ih w)
    go false e w ih = or-none (nat_le n h.range) (list_any (λ g. nat_le n g.range) hs) (any-left (nat_le n h.range) (list_any (λ g. nat_le n g.range) (others_of v hs)) w) (ih (any-right (nat_le n h.range) (list_any (λ g. nat_le n g.range) (others_of v hs)) w))

pub known-others : (n v : ℕ) (hs : List RangeExtent) → AreKnown n hs → AreKnown n (others_of v hs)
known-others n v [] k = refl
known-others n v (h ∷ hs) k = go (nat_eq h.range v) (known-others n v hs (any-right (nat_le n h.range) (list_any (λ g. nat_le n g.range) hs) k))
  where
    go : (u : Bool) → AreKnown n (others_of v hs) → AreKnown n (cond (not u) (h ∷ others_of v hs) (others_of v hs))
    go true w = w
    go false w = or-none (nat_le n h.range) (list_any (λ g. nat_le n g.range) (others_of v hs)) (any-left (nat_le n h.range) (list_any (λ g. nat_le n g.range) hs) k) w
