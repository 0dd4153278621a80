-- Lists out of which a range's stretches are taken, in turn.
use Rattle.std.proofs.Common.{◌≡◌, ◌<◌, ◌≤◌, ◌+◌, ◌⊎◌, ℕ, zero, suc, Bool, true, false, cond, not, ◌&&◌, length, set, get_or, List, [], ◌∷◌, ◌++◌, Option, None, Some, inl, inr, refl, sym, ap, ◌∙◌, subst, arith, append_assoc, eqb-true, eq-eqb}
use Rattle.std.specs.Prelude.{◌||◌, nat_eq, filter, slice_get, option_map}
use Rattle.std.specs.List.{list_any, cons_option, filter_map}
use Rattle.std.proofs.lemmas.Bool.{cases_eq}
use Rattle.std.proofs.lemmas.List.Elements.{filter_map-append}
use Rattle.mir_meaning.specs.Registers.{numbers}
use Rattle.live_lanes.specs.declared.ask.extent.Extent.{Extent}
use Rattle.live_lanes.specs.declared.row.Cell.{Cell}
use Rattle.live_lanes.specs.Table.{Numbers}
use Rattle.live_lanes.specs.Entered.{piece_count}
use Rattle.live_lanes.specs.Extents.{is_same_start, begins_with, extent_in, cell_extents, some_extents}
use Rattle.live_lanes.proofs.Held.{or-left, or-right}
use Rattle.interference.specs.declared.held.HeldList.{HeldList}
use Rattle.interference.specs.declared.unit_table.UnitExtents.{UnitExtents}
use Rattle.interference.specs.declared.unit_table.UnitTable.{UnitTable}
use Rattle.interference.specs.Clashes.{AreApart, AreFilled, held_of, list_in}
use Rattle.interference.specs.Changes.{is_piece, others_of, own_of, starting}
use Rattle.interference.specs.Listed.{AreAmong, IsThinned, ChangesRow, ChangesAt, ChangesCell}
use Rattle.interference.proofs.Parts.{apart-filter}
use Rattle.interference.proofs.Owned.{others-spared, own-spared}

-- how pieces begin

same-is : (a b : Option ℕ) → is_same_start a b ≡ true → a ≡ b
same-is None None e = refl
same-is None (Some b) e = absurd (cc)
same-is (Some a) None e = absurd (cc)
same-is (Some a) (Some b) e = ap Some (eqb-true a b e)

pub same-self : (a : Option ℕ) → is_same_start a a ≡ true
same-self None = refl
same-self (Some a) = eq-eqb a a refl

any-filter : {X : Type 0} (q p : X → Bool) (xs : List X) → list_any q (filter p xs) ≡ true → ((x : X) × (q x ≡ true) × (p x ≡ true)) × (list_any q xs ≡ true)
any-filter q p [] e = absurd (cc)
any-filter {X = X} q p (x ∷ xs) e = go (p x) (q x) refl refl e (any-filter q p xs)
  where
    go : (a b : Bool) → p x ≡ a → q x ≡ b → list_any q (cond a (x ∷ filter p xs) (filter p xs)) ≡ true → (list_any q (filter p xs) ≡ true → ((y : X) × (q y ≡ true) × (p y ≡ true)) × (list_any q xs ≡ true)) → ((y : X) × (q y ≡ true) × (p y ≡ true)) × ((q x || list_any q xs) ≡ true)
    go true true f g h ih = ((x, g, f), or-left (q x) (list_any q xs) g)
    go true false f g h ih = let z = ih (sym (ap (λ b. b || list_any q (filter p xs)) g) ∙ h) in (z.0, or-right (q x) (list_any q xs) z.1)
    go false b f g h ih = let z = ih h in (z.0, or-right (q x) (list_any q xs) z.1)

starting-filter : (s : Option ℕ) (p : Extent → Bool) (es : List Extent) → starting s (filter p es) ≤ starting s es
starting-filter s p [] = omega arith
starting-filter s p (e ∷ es) = go (p e) (begins_with s e) refl (starting-filter s p es)
  where
    go : (a b : Bool) → begins_with s e ≡ b → starting s (filter p es) ≤ starting s es → starting s (cond a (e ∷ filter p es) (filter p es)) ≤ cond b (suc (starting s es)) (starting s es)
    go true true f ih = let q : starting s (e ∷ filter p es) ≡ suc (starting s (filter p es)) = ap (λ b. cond b (suc (starting s (filter p es))) (starting s (filter p es))) f in omega arith
    go true false f ih = let q : starting s (e ∷ filter p es) ≡ starting s (filter p es) = ap (λ b. cond b (suc (starting s (filter p es))) (starting s (filter p es))) f in omega arith
    go false true f ih = omega arith
    go false false f ih = ih

module _ (slots : Numbers) (v : ℕ) where
  -- one stretch is taken out, and none
  pub thin-piece : (e : Extent) (l k : HeldList) → (AreFilled l → AreFilled k) → (AreFilled l → AreApart slots 0 (held_of l) → starting e.start (own_of v (held_of l)) ≤ 1 → held_of k ≡ filter (λ h. not (is_piece v e.start h)) (held_of l)) → IsThinned slots v (e ∷ []) l k
  thin-piece e l k filled held =
      record {
        tidy = λ t. let same = held t.filled t.apart (t.single e.start) in record {
          filled = filled t.filled;
          apart = subst (AreApart slots 0) (sym same) (apart-filter slots (λ h. not (is_piece v e.start h)) 0 (held_of l) t.apart);
          single = λ s. let few = t.single s in let less = starting-filter s (λ x. not (begins_with e.start x)) (own_of v (held_of l)) in
              let is : starting s (own_of v (held_of k)) ≡ starting s (filter (λ x. not (begins_with e.start x)) (own_of v (held_of l))) = ap (starting s) (owns same) in omega arith;
        };
        others = λ t. ap (others_of v) (held t.filled t.apart (t.single e.start)) ∙ others-spared v e.start (held_of l);
        own = λ t rest among s some.
            let same = held t.filled t.apart (t.single e.start) in
            let z = any-filter (begins_with s) (λ x. not (begins_with e.start x)) (own_of v (held_of l)) (sym (ap (list_any (begins_with s)) (owns same)) ∙ some) in
            later s z.0 rest (among s z.1);
      }
    where
      owns : held_of k ≡ filter (λ h. not (is_piece v e.start h)) (held_of l) → own_of v (held_of k) ≡ filter (λ x. not (begins_with e.start x)) (own_of v (held_of l))
      owns same = ap (own_of v) same ∙ own-spared v e.start (held_of l)

      later : (s : Option ℕ) → ((x : Extent) × (begins_with s x ≡ true) × (not (begins_with e.start x) ≡ true)) → (rest : List Extent) → (begins_with s e || list_any (begins_with s) rest) ≡ true → list_any (begins_with s) rest ≡ true
      later s (x, at, off) rest h = go (begins_with s e) refl h
        where
          go : (u : Bool) → begins_with s e ≡ u → (u || list_any (begins_with s) rest) ≡ true → list_any (begins_with s) rest ≡ true
          go true f g = absurd (
              let a : x.start ≡ s = same-is x.start s at in
              let b : e.start ≡ s = same-is e.start s f in
              let both : begins_with e.start x ≡ true = ap (λ y. is_same_start y e.start) (a ∙ sym b) ∙ same-self e.start in
              let z : not (begins_with e.start x) ≡ false = ap not both in cc)
          go false f g = g

  pub thin-none : (l : HeldList) → IsThinned slots v [] l l
  thin-none l = record { tidy = λ t. t; others = λ t. refl; own = λ t rest among. among }

  pub thin-both : (es fs : List Extent) (l k j : HeldList) → IsThinned slots v es l k → IsThinned slots v fs k j → IsThinned slots v (es ++ fs) l j
  thin-both es fs l k j a b = record {
    tidy = λ t. b.tidy (a.tidy t);
    others = λ t. b.others (a.tidy t) ∙ a.others t;
    own = λ t rest among. b.own (a.tidy t) rest (a.own t (fs ++ rest) (subst (AreAmong (own_of v (held_of l))) (append_assoc es fs rest) among));
  }

-- the extents of a cell, up to one

abbrev pub upto : Option Cell → ℕ → List Extent
upto o i = filter_map (extent_in o) (numbers 0 i)

numbers-more : (a n : ℕ) → numbers a (suc n) ≡ numbers a n ++ (a + n) ∷ []
numbers-more a zero = let e : a ≡ a + 0 = omega arith in ap (λ x. x ∷ []) e
numbers-more a (suc n) = let e : suc a + n ≡ a + suc n = omega arith in ap (λ xs. a ∷ xs) (numbers-more (suc a) n) ∙ ap (λ x. a ∷ (numbers (suc a) n ++ x ∷ [])) e

pub upto-more : (o : Option Cell) (i : ℕ) → upto o (i + 1) ≡ upto o i ++ cons_option (extent_in o i) []
upto-more o i =
    let e : i + 1 ≡ suc i = omega arith in let z : 0 + i ≡ i = omega arith in
    ap (upto o) e ∙ ap (filter_map (extent_in o)) (numbers-more 0 i) ∙ filter_map-append (extent_in o) (numbers 0 i) ((0 + i) ∷ []) ∙ ap (λ j. upto o i ++ cons_option (extent_in o j) []) z

pub upto-all : (o : Option Cell) (i : ℕ) → i ≡ piece_count o → upto o i ≡ some_extents o
upto-all None i e = ap (upto None) e
upto-all (Some c) i e = ap (upto (Some c)) e

-- one list among several changes

pub get-within : {X : Type 0} (xs : List X) (i : ℕ) (x : X) → i < length xs → x ≡ get_or xs i x → slice_get xs i ≡ Some x
get-within [] i x h e = absurd (omega arith)
get-within (y ∷ xs) zero x h e = ap Some (sym e)
get-within (y ∷ xs) (suc i) x h e = get-within xs i x (omega arith) e

get-set : {X : Type 0} (xs : List X) (i : ℕ) (y : X) → i < length xs → slice_get (set xs i y) i ≡ Some y
get-set [] i y h = absurd (omega arith)
get-set (x ∷ xs) zero y h = refl
get-set (x ∷ xs) (suc i) y h = get-set xs i y (omega arith)

get-beside : {X : Type 0} (xs : List X) (i j : ℕ) (y : X) → (i ≡ j → ⊥) → slice_get (set xs i y) j ≡ slice_get xs j
get-beside [] i j y ne = refl
get-beside (x ∷ xs) zero zero y ne = absurd (ne refl)
get-beside (x ∷ xs) zero (suc j) y ne = refl
get-beside (x ∷ xs) (suc i) zero y ne = refl
get-beside (x ∷ xs) (suc i) (suc j) y ne = get-beside xs i j y (λ e. ne (ap suc e))

unequal : (i j : ℕ) → nat_eq i j ≡ false → i ≡ j → ⊥
unequal i j f e = let z : true ≡ false = sym (eq-eqb i j e) ∙ f in absurd (cc)

pub row-changed : (P : HeldList → HeldList → Type 0) (ls : List HeldList) (b : ℕ) (l k : HeldList) → b < length ls → l ≡ get_or ls b l → P l k → ChangesRow P b ls (set ls b k)
row-changed P ls b l k h e p = record {
  here = λ m f. let same : l ≡ m = let z : Some l ≡ Some m = sym (get-within ls b l h e) ∙ f in cc in (k, get-set ls b k h, subst (λ n. P n k) same p);
  none = λ f. absurd (let z : Some l ≡ None = sym (get-within ls b l h e) ∙ f in cc);
  other = λ p ne. get-beside ls b p k (unequal b p ne);
}

-- where there is a list
pub row-there : {X : Type 0} (ls : List HeldList) (b : ℕ) (l : HeldList) → b < length ls → l ≡ get_or ls b l → slice_get ls b ≡ None → X
row-there ls b l h e none = absurd (let z : Some l ≡ None = sym (get-within ls b l h e) ∙ none in cc)

in-row : (a : UnitTable) (u b : ℕ) (o : Option UnitExtents) → slice_get a.units.items u ≡ o → list_in a u b ≡ elim o [ None ↦ None | Some r ↦ slice_get r.blocks.items b ]
in-row a u b o e = ap (λ q. elim q [ None ↦ None | Some r ↦ slice_get r.blocks.items b ]) e

pub table-changed : (P : HeldList → HeldList → Type 0) (old new : UnitTable) (u b : ℕ) (r s : UnitExtents) → u < length old.units.items → r ≡ get_or old.units.items u r → new.units.items ≡ set old.units.items u s → ChangesRow P b r.blocks.items s.blocks.items → ChangesAt P u b old new
table-changed P old new u b r s h e is row = record {
  here = λ l f. let z = row.here l (sym (was b) ∙ f) in (z.0, will b ∙ z.1, z.2);
  none = λ f. will b ∙ row.none (sym (was b) ∙ f);
  other = λ w p ne. go w p (cases_eq u w) ne;
}
  where
    was : (p : ℕ) → list_in old u p ≡ slice_get r.blocks.items p
    was p = in-row old u p (Some r) (get-within old.units.items u r h e)

    will : (p : ℕ) → list_in new u p ≡ slice_get s.blocks.items p
    will p = in-row new u p (Some s) (ap (λ xs. slice_get xs u) is ∙ get-set old.units.items u s h)

    go : (w p : ℕ) → (u ≡ w) ⊎ (u ≡ w → ⊥) → (nat_eq u w && nat_eq b p) ≡ false → list_in new w p ≡ list_in old w p
    go w p (inl same) ne =
        let off : nat_eq b p ≡ false = sym (ap (λ t. t && nat_eq b p) (eq-eqb u w same)) ∙ ne in
        ap (λ x. list_in new x p) (sym same) ∙ will p ∙ row.other p off ∙ sym (was p) ∙ ap (λ x. list_in old x p) same
    go w p (inr not) ne = in-row new w p (slice_get old.units.items w) (ap (λ xs. slice_get xs w) is ∙ get-beside old.units.items u w s not)

pub table-there : {X : Type 0} (a : UnitTable) (u b : ℕ) (r : UnitExtents) → u < length a.units.items → r ≡ get_or a.units.items u r → (slice_get r.blocks.items b ≡ None → X) → list_in a u b ≡ None → X
table-there a u b r h e rest none = rest (sym (in-row a u b (Some r) (get-within a.units.items u r h e)) ∙ none)

-- the list of the block of a cell
pub cell-some : (P : List Extent → HeldList → HeldList → Type 0) (u b : ℕ) (o : Option Cell) (a n : UnitTable) → Some b ≡ option_map (λ (c : Cell). c.block) o → ChangesAt (P (some_extents o)) u b a n → ChangesCell P u o a n
cell-some P u b None a n e change = absurd (cc)
cell-some P u b (Some c) a n e change = let same : b ≡ c.block = cc in subst (λ k. ChangesAt (P (cell_extents c)) u k a n) same change
