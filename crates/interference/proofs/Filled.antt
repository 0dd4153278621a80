-- Lists into which a range's extents are put, in turn.
use Rattle.std.proofs.Common.{◌≡◌, ◌<◌, ◌≤◌, ◌+◌, ◌-◌, ℕ, zero, suc, Bool, true, false, List, [], ◌∷◌, ◌++◌, Option, None, Some, refl, sym, ap, ◌∙◌, subst, arith, append-nil}
use Rattle.std.specs.Prelude.{◌||◌, nat_le, filter}
use Rattle.std.specs.List.{list_any, list_all, cons_option, filter_map}
use Rattle.std.proofs.lemmas.Bool.{le-leb}
use Rattle.std.proofs.lemmas.List.Elements.{filter_map-append}
use Rattle.mir_meaning.specs.Registers.{numbers}
use Rattle.live_lanes.specs.declared.ask.extent.Extent.{Extent}
use Rattle.live_lanes.specs.declared.row.Cell.{Cell}
use Rattle.live_lanes.specs.Table.{Numbers}
use Rattle.live_lanes.specs.Entered.{piece_count}
use Rattle.live_lanes.specs.Extents.{extent_in, first_rank, last_rank, stretch_of, some_extents}
use Rattle.live_lanes.proofs.Cells.{both}
use Rattle.interference.specs.declared.held.HeldList.{HeldList}
use Rattle.interference.specs.Clashes.{AreApart, AreFilled, held_of, begins_by, is_taken}
use Rattle.interference.specs.Changes.{others_of, own_of, IsInserted}
use Rattle.interference.specs.Listed.{AreInTurn, IsFront, HasRoom, IsClear, IsKept, IsBegun, IsFilled}
use Rattle.interference.proofs.Parts.{extent-le}
use Rattle.interference.proofs.Owned.{apart-put, others-put, own-put, taken-others}
use Rattle.interference.proofs.Thinned.{upto, upto-all}

module _ (slots : Numbers) (v : ℕ) where
  -- one extent is put in, and none
  abbrev pub Puts : Option Extent → HeldList → HeldList → Type 0
  Puts o l k = IsKept slots v l k × (own_of v (held_of k) ≡ own_of v (held_of l) ++ cons_option o [])

  pub put-piece : (e : Extent) (l k : HeldList) → (AreFilled l → AreFilled k) → IsInserted (filter (begins_by slots (first_rank slots e)) (held_of l)) (record { range = v; extent = e }) (held_of l) (held_of k) → AreFilled l → AreApart slots 0 (held_of l) → IsClear slots v (held_of l) (Some e) → Puts (Some e) l k
  put-piece e l k filled put full apart clear = (
    record {
      filled = filled full;
      apart = apart-put slots v e (held_of l) (held_of k) put apart clear.0 clear.1;
      others = others-put slots v e (held_of l) (held_of k) put apart clear.0 clear.1;
    },
    own-put slots v e (held_of l) (held_of k) put apart clear.0 clear.1,
  )

  pub put-none : (l : HeldList) → AreFilled l → AreApart slots 0 (held_of l) → Puts None l l
  put-none l full apart = (record { filled = full; apart = apart; others = refl }, sym (append-nil (own_of v (held_of l))))

  kept-both : (l k j : HeldList) → IsKept slots v l k → IsKept slots v k j → IsKept slots v l j
  kept-both l k j a b = record { filled = b.filled; apart = b.apart; others = b.others ∙ a.others }

  kept-same : (l k j : HeldList) → AreFilled j → held_of j ≡ held_of k → IsKept slots v l k → IsKept slots v l j
  kept-same l k j full same a = record { filled = full; apart = subst (AreApart slots 0) (sym same) a.apart; others = ap (others_of v) same ∙ a.others }

  -- extents that come one behind the other end by the first point of the next one
  in-turn : (n : ℕ) (xs ys : List Extent) (e : Extent) → AreInTurn slots n (xs ++ e ∷ ys) → list_all (λ x. nat_le (last_rank slots x) (first_rank slots e)) xs ≡ true
  in-turn n [] ys e t = refl
  in-turn n (x ∷ xs) ys e t =
      both (nat_le (last_rank slots x) (first_rank slots e)) (list_all (λ y. nat_le (last_rank slots y) (first_rank slots e)) xs)
      (le-leb (last_rank slots x) (first_rank slots e) (low (last_rank slots x) xs t.1)) (in-turn (last_rank slots x) xs ys e t.1)
    where
      low : (m : ℕ) (zs : List Extent) → AreInTurn slots m (zs ++ e ∷ ys) → m ≤ first_rank slots e
      low m [] q = q.0
      low m (z ∷ zs) q = let a = q.0 in let c = extent-le slots z in let ih = low (last_rank slots z) zs q.1 in omega arith

  none-of : {X : Type 0} (p : X → Bool) (xs ys : List X) (x : X) → list_any p (xs ++ x ∷ ys) ≡ false → p x ≡ false
  none-of p [] ys x e = left (p x) (list_any p ys) e
    where
      left : (a b : Bool) → (a || b) ≡ false → a ≡ false
      left true b f = f
      left false b f = refl
  none-of p (z ∷ xs) ys x e = none-of p xs ys x (right (p z) (list_any p (xs ++ x ∷ ys)) e)
    where
      right : (a b : Bool) → (a || b) ≡ false → b ≡ false
      right true b f = absurd (cc)
      right false b f = f

  -- the extents of a cell, up to one and from there on

  numbers-split : (a i n : ℕ) → i < n → numbers a n ≡ numbers a i ++ (a + i) ∷ numbers (suc (a + i)) (n - suc i)
  numbers-split a zero n h =
      let e : n ≡ suc (n - suc zero) = omega arith in let z : a ≡ a + 0 = omega arith in
      ap (numbers a) e ∙ ap (λ x. x ∷ numbers (suc x) (n - suc zero)) z
  numbers-split a (suc i) n h =
      let e : n ≡ suc (n - 1) = omega arith in
      let f : suc a + i ≡ a + suc i = omega arith in
      let g : n - 1 - suc i ≡ n - suc (suc i) = omega arith in
      ap (numbers a) e
      ∙ ap (λ xs. a ∷ xs) (numbers-split (suc a) i (n - 1) (omega arith))
      ∙ ap (λ x. a ∷ (numbers (suc a) i ++ x ∷ numbers (suc x) (n - 1 - suc i))) f
      ∙ ap (λ m. a ∷ (numbers (suc a) i ++ (a + suc i) ∷ numbers (suc (a + suc i)) m)) g

  rest-from : Option Cell → ℕ → List Extent
  rest-from o i = filter_map (extent_in o) (numbers (suc (0 + i)) (piece_count o - suc i))

  upto-split : (o : Option Cell) (i : ℕ) → i < piece_count o → some_extents o ≡ upto o i ++ cons_option (extent_in o i) (rest-from o i)
  unfolding rest-from
  upto-split o i h =
      let z : 0 + i ≡ i = omega arith in
      sym (upto-all o (piece_count o) refl) ∙ ap (filter_map (extent_in o)) (numbers-split 0 i (piece_count o) h)
      ∙ filter_map-append (extent_in o) (numbers 0 i) ((0 + i) ∷ numbers (suc (0 + i)) (piece_count o - suc i))
      ∙ ap (λ j. upto o i ++ cons_option (extent_in o j) (filter_map (extent_in o) (numbers (suc (0 + i)) (piece_count o - suc i)))) z

  -- up to a piece all is well
  pub record Far (o : Option Cell) (i : ℕ) (l k : HeldList) : Type 0 where
    pub kept : IsKept slots v l k
    pub own : own_of v (held_of k) ≡ upto o i

  pub far-first : (o : Option Cell) (l : HeldList) → HasRoom slots v (some_extents o) l → Far o 0 l l
  far-first o l room = record { kept = record { filled = room.filled; apart = room.apart; others = refl }; own = room.none }

  -- the next piece is clear
  pub clear-next : (o : Option Cell) (i : ℕ) (l k : HeldList) → HasRoom slots v (some_extents o) l → Far o i l k → i < piece_count o → IsClear slots v (held_of k) (extent_in o i)
  clear-next o i l k room far h = go (extent_in o i) (upto-split o i h)
    where
      go : (q : Option Extent) → some_extents o ≡ upto o i ++ cons_option q (rest-from o i) → IsClear slots v (held_of k) q
      go None e = tt
      go (Some x) e = (
        sym (taken-others slots v (stretch_of slots x) (held_of k)) ∙ ap (λ hs. is_taken slots hs v (stretch_of slots x)) far.kept.others ∙ taken-others slots v (stretch_of slots x) (held_of l)
            ∙ none-of (λ y. is_taken slots (held_of l) v (stretch_of slots y)) (upto o i) (rest-from o i) x (sym (ap (list_any (λ y. is_taken slots (held_of l) v (stretch_of slots y))) e) ∙ room.clear),
        ap (list_all (λ y. nat_le (last_rank slots y) (first_rank slots x))) far.own ∙ in-turn 0 (upto o i) (rest-from o i) x (subst (AreInTurn slots 0) e room.turns),
      )

  pub far-next : (o : Option Cell) (i : ℕ) (l k j : HeldList) → Far o i l k → Puts (extent_in o i) k j → upto o (i + 1) ≡ upto o i ++ cons_option (extent_in o i) [] → Far o (i + 1) l j
  far-next o i l k j far put more = record {
    kept = kept-both l k j far.kept put.0;
    own = put.1 ∙ ap (λ es. es ++ cons_option (extent_in o i) []) far.own ∙ sym more;
  }

  pub far-end : (o : Option Cell) (i : ℕ) (l k : HeldList) → i ≡ piece_count o → (HasRoom slots v (some_extents o) l → Far o i l k) → IsFilled slots v (some_extents o) l k
  far-end o i l k e far = record { kept = λ room. (far room).kept; own = λ room. (far room).own ∙ upto-all o i e }

  cut-off : (o : Option Cell) (i : ℕ) → i < piece_count o → IsFront (upto o i) (some_extents o)
  cut-off o i h = (cons_option (extent_in o i) (rest-from o i), upto-split o i h)

  -- a refusal leaves what was put in so far
  pub far-refused : (o : Option Cell) (i : ℕ) (l k j : HeldList) → i < piece_count o → (HasRoom slots v (some_extents o) l → Far o i l k) → (AreFilled k → AreFilled j) → held_of j ≡ held_of k → IsBegun slots v (some_extents o) l j
  far-refused o i l k j h far filled same = record {
    kept = λ room. kept-same l k j (filled (far room).kept.filled) same (far room).kept;
    own = λ room. let z = cut-off o i h in (z.0, z.1 ∙ ap (λ es. es ++ z.0) (sym (ap (own_of v) same ∙ (far room).own)));
  }
