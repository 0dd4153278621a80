-- Stretches of a range that begin with an instruction, or with the block, looked for among those that lie apart.
use Rattle.std.proofs.Common.{◌≡◌, ◌<◌, ◌≤◌, ℕ, zero, suc, Bool, true, false, cond, length, take, drop, get_or, List, [], ◌∷◌, ◌++◌, Option, None, Some, refl, sym, ap, ◌∙◌, arith, eqb-true}
use Rattle.std.specs.Prelude.{◌||◌, nat_eq, filter, slice_get}
use Rattle.std.specs.List.{list_any}
use Rattle.std.proofs.lemmas.Bool.{ltb-true, leb-false, lt-ltb}
use Rattle.std.proofs.lemmas.List.Folds.{list_any-append, list_any_at}
use Rattle.slot_index.specs.Order.{number_of}
use Rattle.live_lanes.specs.Table.{Numbers, entry_rank, exit_rank}
use Rattle.live_lanes.specs.Extents.{is_same_start, begins_with, first_rank, last_rank}
use Rattle.live_lanes.proofs.Cells.{both-right}
use Rattle.live_lanes.proofs.Held.{or-right, or-none}
use Rattle.interference.specs.declared.held.ListPosition.{ListPosition}
use Rattle.interference.specs.declared.held.RangeExtent.{RangeExtent}
use Rattle.interference.specs.Clashes.{AreApart, begins_by}
use Rattle.interference.specs.Parts.{part_in, part_before}
use Rattle.interference.specs.Changes.{is_piece, low_rank, high_rank, begins_before}
use Rattle.interference.proofs.Parts.{extent-le}

pub take-there : {X : Type 0} (n k : ℕ) (xs : List X) (x : X) → slice_get (take n xs) k ≡ Some x → slice_get xs k ≡ Some x
take-there zero k xs x e = absurd (cc)
take-there (suc n) k [] x e = absurd (cc)
take-there (suc n) zero (y ∷ xs) x e = e
take-there (suc n) (suc k) (y ∷ xs) x e = take-there n k xs x e

pub before-there : (ps : List (List RangeExtent)) (gap : ListPosition) (j k : ℕ) (h : RangeExtent) → slice_get (part_before ps gap j) k ≡ Some h → slice_get (part_in ps j) k ≡ Some h
before-there ps gap j k h e = go (nat_eq j gap.part) e
  where
    go : (u : Bool) → slice_get (cond u (take gap.count (part_in ps j)) (part_in ps j)) k ≡ Some h → slice_get (part_in ps j) k ≡ Some h
    go true f = take-there gap.count k (part_in ps j) h f
    go false f = f

pub get-there : {X : Type 0} (xs : List X) (i : ℕ) (d : X) → i < length xs → slice_get xs i ≡ Some (get_or xs i d)
get-there [] i d h = absurd (omega arith)
get-there (x ∷ xs) zero d h = refl
get-there (x ∷ xs) (suc i) d h = get-there xs i d (omega arith)

module _ (slots : Numbers) (v : ℕ) (start : Option ℕ) where
  low-in : (a b : Option ℕ) (early : Bool) → is_same_start a b ≡ true → low_rank slots b ≤ elim a [ None ↦ 0 | Some id ↦ cond early (entry_rank slots id) (exit_rank slots id) ]
  low-in None None early e = omega arith
  low-in None (Some b) early e = absurd (cc)
  low-in (Some a) None early e = absurd (cc)
  low-in (Some a) (Some b) true e = let r : number_of slots b ≡ number_of slots a = ap (number_of slots) (sym (eqb-true a b e)) in omega arith
  low-in (Some a) (Some b) false e = let r : number_of slots b ≡ number_of slots a = ap (number_of slots) (sym (eqb-true a b e)) in omega arith

  high-in : (a b : Option ℕ) (early : Bool) → is_same_start a b ≡ true → elim a [ None ↦ 0 | Some id ↦ cond early (entry_rank slots id) (exit_rank slots id) ] ≤ high_rank slots b
  high-in None None early e = omega arith
  high-in None (Some b) early e = absurd (cc)
  high-in (Some a) None early e = absurd (cc)
  high-in (Some a) (Some b) true e = let r : number_of slots b ≡ number_of slots a = ap (number_of slots) (sym (eqb-true a b e)) in omega arith
  high-in (Some a) (Some b) false e = let r : number_of slots b ≡ number_of slots a = ap (number_of slots) (sym (eqb-true a b e)) in omega arith

  piece-low : (h : RangeExtent) → is_piece v start h ≡ true → low_rank slots start ≤ first_rank slots h.extent
  piece-low h e = low-in h.extent.start start h.extent.early (both-right (nat_eq h.range v) (begins_with start h.extent) e)

  piece-high : (h : RangeExtent) → is_piece v start h ≡ true → first_rank slots h.extent ≤ high_rank slots start
  piece-high h e = high-in h.extent.start start h.extent.early (both-right (nat_eq h.range v) (begins_with start h.extent) e)

  -- what begins before is no such stretch, nor what begins behind
  not-low : (h : RangeExtent) → first_rank slots h.extent < low_rank slots start → is_piece v start h ≡ false
  not-low h low = go (is_piece v start h) refl
    where
      go : (u : Bool) → is_piece v start h ≡ u → is_piece v start h ≡ false
      go true e = absurd (let z = piece-low h e in omega arith)
      go false e = e

  not-high : (h : RangeExtent) → begins_by slots (high_rank slots start) h ≡ false → is_piece v start h ≡ false
  not-high h late = go (is_piece v start h) refl
    where
      go : (u : Bool) → is_piece v start h ≡ u → is_piece v start h ≡ false
      go true e = absurd (let z = piece-high h e in let w = leb-false (first_rank slots h.extent) (high_rank slots start) late in omega arith)
      go false e = e

  apart-first : (n : ℕ) (hs : List RangeExtent) (i : ℕ) (d : RangeExtent) → AreApart slots n hs → i < length hs → n ≤ first_rank slots (get_or hs i d).extent
  apart-first n [] i d a h = absurd (omega arith)
  apart-first n (x ∷ xs) zero d a h = a.0
  apart-first n (x ∷ xs) (suc i) d a h = let ih = apart-first (last_rank slots x.extent) xs i d a.1 (omega arith) in let b = a.0 in let c = extent-le slots x.extent in omega arith

  -- where one begins before, there is none up to it
  pub sought-none : (n : ℕ) (hs : List RangeExtent) (i : ℕ) (d : RangeExtent) → AreApart slots n hs → i < length hs → first_rank slots (get_or hs i d).extent < low_rank slots start → list_any (is_piece v start) (drop (suc i) hs) ≡ false → list_any (is_piece v start) hs ≡ false
  sought-none n [] i d a h low e = absurd (omega arith)
  sought-none n (x ∷ xs) zero d a h low e = or-none (is_piece v start x) (list_any (is_piece v start) xs) (not-low x low) e
  sought-none n (x ∷ xs) (suc i) d a h low e =
      let up = apart-first (last_rank slots x.extent) xs i d a.1 (omega arith) in
      let c = extent-le slots x.extent in
      or-none (is_piece v start x) (list_any (is_piece v start) xs) (not-low x (omega arith)) (sought-none (last_rank slots x.extent) xs i d a.1 (omega arith) low e)

  pub begun-low : (hs : List RangeExtent) (i : ℕ) (d : RangeExtent) → i < length hs → first_rank slots (get_or hs i d).extent < low_rank slots start → list_any (begins_before slots (low_rank slots start)) hs ≡ true
  begun-low hs i d h low = list_any_at (begins_before slots (low_rank slots start)) hs i d h (lt-ltb (first_rank slots (get_or hs i d).extent) (low_rank slots start) low)

  begin-low : (t n : ℕ) (hs : List RangeExtent) → AreApart slots n hs → list_any (begins_before slots t) hs ≡ true → n < t
  begin-low t n [] a e = absurd (cc)
  begin-low t n (h ∷ hs) a e = go (begins_before slots t h) refl (λ f. begin-low t (last_rank slots h.extent) hs a.1 f)
    where
      go : (u : Bool) → begins_before slots t h ≡ u → (list_any (begins_before slots t) hs ≡ true → last_rank slots h.extent < t) → n < t
      go true f ih = let low = ltb-true (first_rank slots h.extent) t f in let b = a.0 in omega arith
      go false f ih =
          let rest : list_any (begins_before slots t) hs ≡ true = sym (ap (λ b. b || list_any (begins_before slots t) hs) f) ∙ e in
          let low = ih rest in let b = a.0 in let c = extent-le slots h.extent in omega arith

  -- nor ahead of such a one
  pub none-ahead : (n : ℕ) (xs ys : List RangeExtent) → AreApart slots n (xs ++ ys) → list_any (begins_before slots (low_rank slots start)) ys ≡ true → list_any (is_piece v start) xs ≡ false
  none-ahead n [] ys a e = refl
  none-ahead n (x ∷ xs) ys a e =
      let t = low_rank slots start in
      let up = begin-low t (last_rank slots x.extent) (xs ++ ys) a.1 (list_any-append (begins_before slots t) xs ys ∙ or-right (list_any (begins_before slots t) xs) (list_any (begins_before slots t) ys) e) in
      let c = extent-le slots x.extent in
      or-none (is_piece v start x) (list_any (is_piece v start) xs) (not-low x (omega arith)) (none-ahead (last_rank slots x.extent) xs ys a.1 e)

  -- all such begin by the last point that they may begin at
  pub all-begun : (hs : List RangeExtent) → list_any (is_piece v start) (filter (begins_by slots (high_rank slots start)) hs) ≡ list_any (is_piece v start) hs
  all-begun [] = refl
  all-begun (h ∷ hs) = go (begins_by slots (high_rank slots start) h) refl (all-begun hs)
    where
      go : (u : Bool) → begins_by slots (high_rank slots start) h ≡ u → list_any (is_piece v start) (filter (begins_by slots (high_rank slots start)) hs) ≡ list_any (is_piece v start) hs
          → list_any (is_piece v start) (cond u (h ∷ filter (begins_by slots (high_rank slots start)) hs) (filter (begins_by slots (high_rank slots start)) hs)) ≡ list_any (is_piece v start) (h ∷ hs)
      go true f ih = ap (λ b. is_piece v start h || b) ih
      go false f ih = ih ∙ sym (ap (λ b. b || list_any (is_piece v start) hs) (not-high h f))
