-- Tables in which each number is that of one lane.
use Rattle.std.proofs.Common.{◌≢◌, get_or, ◌≡◌, ◌⊎◌, ◌≤◌, ◌<◌, ℕ, zero, suc, ◌+◌, Bool, true, false, cond, List, [], ◌∷◌, ◌++◌, Option, Some, None, map, length, refl, sym, ap, ◌∙◌, subst, inl, inr, eqb-true, arith}
use Rattle.std.specs.Prelude.{nat_eq, nat_lt, slice_get}
use Rattle.std.proofs.lemmas.Bool.{ltb-true, eqb-false}
use Rattle.std.proofs.lemmas.Option.{slice_get_within, get_or_from_slice_get}
use Rattle.target_base.specs.declared.types.Target.{Target}
use Rattle.mir_meaning.specs.Registers.{numbers}
use Rattle.target_base.specs.Registers.{is_reserved_unit}
use Rattle.instr_effects.specs.declared.owner.Owner.{Owner}
use Rattle.instr_effects.specs.declared.owner.Owner.TheVariants as owners
use Rattle.instr_effects.specs.declared.row.LaneSpan.{LaneSpan}
use Rattle.instr_effects.specs.Row.{lane_in}
use Rattle.instr_effects.specs.Numbers.{unit_number_in, row_number_in}
use Rattle.instr_effects.specs.declared.lanes.LaneTable.{LaneTable}
use Rattle.instr_effects.specs.Numbered.{number_in, IsTable, reserved_units}
use Rattle.std.specs.Ordering.{nat_cmp}
use Rattle.std.specs.BTreeMap.{get}

some-same : {X : Type 0} (x y : X) → Some x ≡ Some y → x ≡ y
some-same x y e = cc

-- an element of a list is one of a longer list
pub slice-left : {X : Type 0} (xs ys : List X) (k : ℕ) (x : X) → slice_get xs k ≡ Some x → slice_get (xs ++ ys) k ≡ Some x
slice-left [] ys k x e = absurd (cc)
slice-left (y ∷ xs) ys zero x e = e
slice-left (y ∷ xs) ys (suc k) x e = slice-left xs ys k x e

pub slice-right : {X : Type 0} (xs ys : List X) (k : ℕ) → slice_get (xs ++ ys) (length xs + k) ≡ slice_get ys k
slice-right [] ys k = let e : 0 + k ≡ k = omega arith in ap (slice_get ys) e
slice-right (x ∷ xs) ys k = let e : suc (length xs) + k ≡ suc (length xs + k) = omega arith in ap (slice_get (x ∷ (xs ++ ys))) e ∙ slice-right xs ys k

-- so many numbers, by their places
pub slice-numbers : {X : Type 0} (g : ℕ → X) (n count k : ℕ) → k < count → slice_get (map g (numbers n count)) k ≡ Some (g (n + k))
slice-numbers g n zero k h = absurd (omega arith)
slice-numbers g n (suc count) zero h = let e : n ≡ n + 0 = omega arith in ap (λ m. Some (g m)) e
slice-numbers g n (suc count) (suc k) h = let e : suc n + k ≡ n + suc k = omega arith in slice-numbers g (suc n) count k (omega arith) ∙ ap (λ m. Some (g m)) e

-- the units of a table stand first
pub unit-owned : (reserved : List Bool) (count u n : ℕ) → length reserved ≡ count → unit_number_in reserved u ≡ Some n → slice_get (map owners.Unit (numbers 0 count)) n ≡ Some (owners.Unit u)
unit-owned reserved count u n long e = go (slice_get reserved u) refl e
  where
    by : (b : Bool) → slice_get reserved u ≡ Some b → cond b None (Some u) ≡ Some n → slice_get (map owners.Unit (numbers 0 count)) n ≡ Some (owners.Unit u)
    by true f g = absurd (cc)
    by false f g =
        let same : u ≡ n = some-same u n g in
        let h : u < length reserved = slice_get_within reserved u false f in
        let z : 0 + u ≡ u = omega arith in
        ap (slice_get (map owners.Unit (numbers 0 count))) (sym same) ∙ slice-numbers owners.Unit 0 count u (omega arith) ∙ ap (λ m. Some (owners.Unit m)) z

    go : (q : Option Bool) → slice_get reserved u ≡ q → elim q [ None ↦ None | Some b ↦ cond b None (Some u) ] ≡ Some n → slice_get (map owners.Unit (numbers 0 count)) n ≡ Some (owners.Unit u)
    go None f g = absurd (cc)
    go (Some b) f g = by b f g

-- lanes in a row stand where their numbers say
pub row-owned : (g : ℕ → Owner) (before : List Owner) (x : LaneSpan) (count k n : ℕ) → x.first ≡ length before → x.count ≡ count → lane_in x.first x.count k ≡ Some n → slice_get (before ++ map g (numbers 0 count)) n ≡ Some (g k)
row-owned g before x count k n a b e = go (nat_lt k x.count) refl e
  where
    go : (q : Bool) → nat_lt k x.count ≡ q → cond q (Some (x.first + k)) None ≡ Some n → slice_get (before ++ map g (numbers 0 count)) n ≡ Some (g k)
    go false f h = absurd (cc)
    go true f h =
        let lt : k < x.count = ltb-true k x.count f in
        let at : length before + k ≡ n = ap (λ m. m + k) (sym a) ∙ some-same (x.first + k) n h in
        let z : 0 + k ≡ k = omega arith in
        ap (slice_get (before ++ map g (numbers 0 count))) (sym at) ∙ slice-right before (map g (numbers 0 count)) k ∙ slice-numbers g 0 count k (omega (arith, lt, b)) ∙ ap (λ m. Some (g m)) z

-- a row behind others is the last, or one of these
pub rows-split : (xs : List LaneSpan) (x : LaneSpan) (v : ℕ) (y : LaneSpan) → slice_get (xs ++ x ∷ []) v ≡ Some y → (slice_get xs v ≡ Some y) ⊎ ((v ≡ length xs) × (y ≡ x))
rows-split [] x zero y e = inr (refl, sym (some-same x y e))
rows-split [] x (suc v) y e = absurd (cc)
rows-split (z ∷ xs) x zero y e = inl e
rows-split (z ∷ xs) x (suc v) y e = go (rows-split xs x v y e)
  where
    go : (slice_get xs v ≡ Some y) ⊎ ((v ≡ length xs) × (y ≡ x)) → (slice_get xs v ≡ Some y) ⊎ ((suc v ≡ suc (length xs)) × (y ≡ x))
    go (inl h) = inl h
    go (inr h) = inr (ap (λ m. suc m) h.0, h.1)

-- a table with a further range is one
pub with-range : (old new : LaneTable) (x : LaneSpan) (count : ℕ) → IsTable old → new.owners.items ≡ old.owners.items ++ map (owners.Range (length old.ranges.items)) (numbers 0 count) → new.ranges.items ≡ old.ranges.items ++ x ∷ [] → x.first ≡ length old.owners.items → x.count ≡ count → new.reserved.items ≡ old.reserved.items → ((s : ℕ) → get nat_cmp new.slots s ≡ get nat_cmp old.slots s) → IsTable new
with-range old new x count table os rs first long reserved slots = record { owned = owned; units = units; full = λ s y e. table.full s y (sym (slots s) ∙ e) }
  where
    units : (u : ℕ) → u < length new.reserved.items → slice_get new.owners.items u ≡ Some (owners.Unit u)
    units u h = ap (λ l. slice_get l u) os ∙ slice-left old.owners.items (map (owners.Range (length old.ranges.items)) (numbers 0 count)) u (owners.Unit u) (table.units u (let e = ap (λ bs. length bs) reserved in omega (arith, h, e)))

    kept : (o : Owner) (n : ℕ) → number_in old o ≡ Some n → slice_get new.owners.items n ≡ Some o
    kept o n e = ap (λ l. slice_get l n) os ∙ slice-left old.owners.items (map (owners.Range (length old.ranges.items)) (numbers 0 count)) n o (table.owned o n e)

    range : (v k n : ℕ) (q : Option LaneSpan) → slice_get new.ranges.items v ≡ q → row_number_in q k ≡ Some n → slice_get new.owners.items n ≡ Some (owners.Range v k)
    range v k n None f e = absurd (cc)
    range v k n (Some y) f e = at (rows-split old.ranges.items x v y (ap (λ l. slice_get l v) (sym rs) ∙ f))
      where
        at : (slice_get old.ranges.items v ≡ Some y) ⊎ ((v ≡ length old.ranges.items) × (y ≡ x)) → slice_get new.owners.items n ≡ Some (owners.Range v k)
        at (inl g) = kept (owners.Range v k) n (ap (λ q. row_number_in q k) g ∙ e)
        at (inr z) =
            ap (λ l. slice_get l n) os
            ∙ row-owned (owners.Range (length old.ranges.items)) old.owners.items x count k n first long (ap (λ r. lane_in r.first r.count k) (sym z.1) ∙ e)
            ∙ ap (λ m. Some (owners.Range m k)) (sym z.0)

    owned : (o : Owner) (n : ℕ) → number_in new o ≡ Some n → slice_get new.owners.items n ≡ Some o
    owned (owners.Unit u) n e = kept (owners.Unit u) n (ap (λ r. unit_number_in r u) (sym reserved) ∙ e)
    owned (owners.Range v k) n e = range v k n (slice_get new.ranges.items v) refl e
    owned (owners.Slot s k) n e = kept (owners.Slot s k) n (ap (λ q. row_number_in q k) (sym (slots s)) ∙ e)

-- a table with a further slot is one
pub with-slot : (old new : LaneTable) (x : LaneSpan) (slot : ℕ) → IsTable old → get nat_cmp old.slots slot ≡ None → new.owners.items ≡ old.owners.items ++ map (owners.Slot slot) (numbers 0 32) → x.first ≡ length old.owners.items → x.count ≡ 32 → new.reserved.items ≡ old.reserved.items → new.ranges.items ≡ old.ranges.items → get nat_cmp new.slots slot ≡ Some x → ((s : ℕ) → (s ≡ slot → ⊥) → get nat_cmp new.slots s ≡ get nat_cmp old.slots s) → IsTable new
with-slot old new x slot table none os first long reserved ranges at others = record { owned = owned; units = units; full = λ s y e. full s y (nat_eq s slot) refl e }
  where
    units : (u : ℕ) → u < length new.reserved.items → slice_get new.owners.items u ≡ Some (owners.Unit u)
    units u h = ap (λ l. slice_get l u) os ∙ slice-left old.owners.items (map (owners.Slot slot) (numbers 0 32)) u (owners.Unit u) (table.units u (let e = ap (λ bs. length bs) reserved in omega (arith, h, e)))

    kept : (o : Owner) (n : ℕ) → number_in old o ≡ Some n → slice_get new.owners.items n ≡ Some o
    kept o n e = ap (λ l. slice_get l n) os ∙ slice-left old.owners.items (map (owners.Slot slot) (numbers 0 32)) n o (table.owned o n e)

    full : (s : ℕ) (y : LaneSpan) (b : Bool) → nat_eq s slot ≡ b → get nat_cmp new.slots s ≡ Some y → y.count ≡ 32
    full s y true f e = let g : get nat_cmp new.slots s ≡ Some x = ap (get nat_cmp new.slots) (eqb-true s slot f) ∙ at in ap (λ r. r.count) (some-same y x (sym e ∙ g)) ∙ long
    full s y false f e = table.full s y (sym (others s (eqb-false s slot f)) ∙ e)

    row : (s k n : ℕ) (b : Bool) → nat_eq s slot ≡ b → row_number_in (get nat_cmp new.slots s) k ≡ Some n → slice_get new.owners.items n ≡ Some (owners.Slot s k)
    row s k n true f e =
        let same : s ≡ slot = eqb-true s slot f in
        let here : get nat_cmp new.slots s ≡ Some x = ap (get nat_cmp new.slots) same ∙ at in
        ap (λ l. slice_get l n) os
        ∙ row-owned (owners.Slot slot) old.owners.items x 32 k n first long (ap (λ q. row_number_in q k) (sym here) ∙ e)
        ∙ ap (λ m. Some (owners.Slot m k)) (sym same)
    row s k n false f e = kept (owners.Slot s k) n (ap (λ q. row_number_in q k) (sym (others s (eqb-false s slot f))) ∙ e)

    owned : (o : Owner) (n : ℕ) → number_in new o ≡ Some n → slice_get new.owners.items n ≡ Some o
    owned (owners.Unit u) n e = kept (owners.Unit u) n (ap (λ r. unit_number_in r u) (sym reserved) ∙ e)
    owned (owners.Range v k) n e = kept (owners.Range v k) n (ap (λ l. row_number_in (slice_get l v) k) (sym ranges) ∙ e)
    owned (owners.Slot s k) n e = row s k n (nat_eq s slot) refl e

-- further owners alone change nothing
pub with-owners : (old new : LaneTable) (more : List Owner) → IsTable old → new.owners.items ≡ old.owners.items ++ more → new.reserved.items ≡ old.reserved.items → new.ranges.items ≡ old.ranges.items → ((s : ℕ) → get nat_cmp new.slots s ≡ get nat_cmp old.slots s) → IsTable new
with-owners old new more table os reserved ranges slots = record { owned = owned; units = units; full = λ s y e. table.full s y (sym (slots s) ∙ e) }
  where
    kept : (o : Owner) (n : ℕ) → number_in old o ≡ Some n → slice_get new.owners.items n ≡ Some o
    kept o n e = ap (λ l. slice_get l n) os ∙ slice-left old.owners.items more n o (table.owned o n e)

    units : (u : ℕ) → u < length new.reserved.items → slice_get new.owners.items u ≡ Some (owners.Unit u)
    units u h = ap (λ l. slice_get l u) os ∙ slice-left old.owners.items more u (owners.Unit u) (table.units u (let e = ap (λ bs. length bs) reserved in omega (arith, h, e)))

    owned : (o : Owner) (n : ℕ) → number_in new o ≡ Some n → slice_get new.owners.items n ≡ Some o
    owned (owners.Unit u) n e = kept (owners.Unit u) n (ap (λ r. unit_number_in r u) (sym reserved) ∙ e)
    owned (owners.Range v k) n e = kept (owners.Range v k) n (ap (λ l. row_number_in (slice_get l v) k) (sym ranges) ∙ e)
    owned (owners.Slot s k) n e = kept (owners.Slot s k) n (ap (λ q. row_number_in q k) (sym (slots s)) ∙ e)

-- with a further range all numbers stay
pub range-keeps : (old new : LaneTable) (x : LaneSpan) → new.ranges.items ≡ old.ranges.items ++ x ∷ [] → new.reserved.items ≡ old.reserved.items → ((s : ℕ) → get nat_cmp new.slots s ≡ get nat_cmp old.slots s) → (o : Owner) (n : ℕ) → number_in old o ≡ Some n → number_in new o ≡ Some n
range-keeps old new x ranges reserved slots (owners.Unit u) n e = ap (λ r. unit_number_in r u) reserved ∙ e
range-keeps old new x ranges reserved slots (owners.Range v k) n e = go (slice_get old.ranges.items v) refl e
  where
    go : (q : Option LaneSpan) → slice_get old.ranges.items v ≡ q → row_number_in q k ≡ Some n → row_number_in (slice_get new.ranges.items v) k ≡ Some n
    go None f g = absurd (cc)
    go (Some y) f g = ap (λ q. row_number_in q k) (ap (λ l. slice_get l v) ranges ∙ slice-left old.ranges.items (x ∷ []) v y f) ∙ g
range-keeps old new x ranges reserved slots (owners.Slot s k) n e = ap (λ q. row_number_in q k) (slots s) ∙ e

-- with a further slot all numbers stay
pub slot-keeps : (old new : LaneTable) (slot : ℕ) → get nat_cmp old.slots slot ≡ None → new.ranges.items ≡ old.ranges.items → new.reserved.items ≡ old.reserved.items → ((s : ℕ) → (s ≡ slot → ⊥) → get nat_cmp new.slots s ≡ get nat_cmp old.slots s) → (o : Owner) (n : ℕ) → number_in old o ≡ Some n → number_in new o ≡ Some n
slot-keeps old new slot none ranges reserved others (owners.Unit u) n e = ap (λ r. unit_number_in r u) reserved ∙ e
slot-keeps old new slot none ranges reserved others (owners.Range v k) n e = ap (λ l. row_number_in (slice_get l v) k) ranges ∙ e
slot-keeps old new slot none ranges reserved others (owners.Slot s k) n e = go (nat_eq s slot) refl
  where
    go : (b : Bool) → nat_eq s slot ≡ b → row_number_in (get nat_cmp new.slots s) k ≡ Some n
    go true f =
        let gone : get nat_cmp old.slots s ≡ None = ap (get nat_cmp old.slots) (eqb-true s slot f) ∙ none in
        absurd (let g : None ≡ Some n = sym (ap (λ q. row_number_in q k) gone) ∙ e in cc)
    go false f = ap (λ q. row_number_in q k) (others s (eqb-false s slot f)) ∙ e

-- a table of units alone is one
pub of-units : (new : LaneTable) (count : ℕ) → new.owners.items ≡ map owners.Unit (numbers 0 count) → length new.reserved.items ≡ count → new.ranges.items ≡ [] → ((s : ℕ) → get nat_cmp new.slots s ≡ None) → IsTable new
of-units new count os long ranges slots = record { owned = owned; units = units; full = λ s y e. absurd (let f = slots s in cc) }
  where
    units : (u : ℕ) → u < length new.reserved.items → slice_get new.owners.items u ≡ Some (owners.Unit u)
    units u h = let zero-on : 0 + u ≡ u = omega arith in ap (λ l. slice_get l u) os ∙ slice-numbers owners.Unit 0 count u (omega (arith, h, long)) ∙ ap (λ n. Some (owners.Unit n)) zero-on

    owned : (o : Owner) (n : ℕ) → number_in new o ≡ Some n → slice_get new.owners.items n ≡ Some o
    owned (owners.Unit u) n e = ap (λ l. slice_get l n) os ∙ unit-owned new.reserved.items count u n long e
    owned (owners.Range v k) n e = absurd (let f : None ≡ Some n = sym (ap (λ l. row_number_in (slice_get l v) k) ranges) ∙ e in cc)
    owned (owners.Slot s k) n e = absurd (let f : None ≡ Some n = sym (ap (λ q. row_number_in q k) (slots s)) ∙ e in cc)

-- what holds of each element before a place holds of one more
pub below-more : {X : Type 0} (P : X → Type 0) (xs : List X) (i : ℕ) (here : X) → i < length xs → here ≡ get_or xs i here → P here → ((k : ℕ) (x : X) → k < i → slice_get xs k ≡ Some x → P x) → (k : ℕ) (x : X) → k < i + 1 → slice_get xs k ≡ Some x → P x
below-more P xs i here h e p before k x g f = go (nat_eq k i) refl
  where
    go : (b : Bool) → nat_eq k i ≡ b → P x
    go false q = let n : k ≢ i = eqb-false k i q in before k x (omega arith) f
    go true q = subst P (e ∙ ap (λ j. get_or xs j here) (sym (eqb-true k i q)) ∙ get_or_from_slice_get xs k x here f) p

pub below-all : {X : Type 0} (P : X → Type 0) (xs : List X) (i : ℕ) → length xs ≤ i → ((k : ℕ) (x : X) → k < i → slice_get xs k ≡ Some x → P x) → (k : ℕ) (x : X) → slice_get xs k ≡ Some x → P x
below-all P xs i h before k x f = let g : k < length xs = slice_get_within xs k x f in before k x (omega arith) f

pub numbers-long : (n k : ℕ) → length (numbers n k) ≡ k
numbers-long n zero = refl
numbers-long n (suc k) = ap (λ m. suc m) (numbers-long (suc n) k)

pub map-long : {X Y : Type 0} (g : X → Y) (xs : List X) → length (map g xs) ≡ length xs
map-long g [] = refl
map-long g (x ∷ xs) = ap (λ k. suc k) (map-long g xs)

-- each unit is reserved or not
pub reserved-long : (t : Target) (flags : List Bool) → flags ≡ reserved_units t → length flags ≡ length t.units
reserved-long t flags e = ap length e ∙ map-long (is_reserved_unit t) (numbers 0 (length t.units)) ∙ numbers-long 0 (length t.units)
