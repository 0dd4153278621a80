-- Raising the pieces that need no other lane.
use Rattle.std.proofs.Common.{◌≡◌, ◌<◌, ◌≤◌, ℕ, zero, suc, Bool, true, false, cond, ◌&&◌, length, List, [], ◌∷◌, ◌++◌, ◌⊎◌, Option, None, Some, refl, sym, ap, ◌∙◌, subst, inl, inr, arith, get_or, set, length-set, map, reverse, eqb-true, append_assoc, append-nil}
use Rattle.std.specs.Prelude.{slice_get, nat_eq}
use mathlib.Core.List.{reverse_aux}
use Rattle.std.specs.List.{find}
use Rattle.std.proofs.lemmas.List.{length-map}
use Rattle.std.proofs.lemmas.Option.{slice_get-get_or, slice_get_cases}
use Rattle.mir_meaning.specs.declared.writing.LaneDef.{LaneDef}
use Rattle.live_lanes.specs.declared.row.Cause.{Cause}
use Rattle.live_lanes.specs.declared.row.Cause.TheVariants as why
use Rattle.live_lanes.specs.declared.row.Cell.{Cell}
use Rattle.live_lanes.specs.declared.row.LaneUse.{LaneUse}
use Rattle.live_lanes.specs.declared.row.LaneRange.{LaneRange}
use Rattle.live_lanes.specs.declared.table.PieceSpot.{PieceSpot}
use Rattle.mir_meaning.specs.Paths.{Among, here, there, Step, Code, steps_of, last_of, has, Use, Unused, Certain, Into, use_of, writing_of, is_written, is_present}
use Rattle.live_lanes.specs.Graph.{Causes, is_live, writes_in, Founded, by_reading, by_phi}
use Rattle.live_lanes.specs.Table.{Seen, seen_in, Begun, begun_readings, readings_in, is_certain, cause_of, certain_cause, cause_in, with_cause, raised_seen}
use Rattle.live_lanes.specs.Certain.{blocks_of, KeepsCertain, RaisesCertain}
use Rattle.live_lanes.specs.Entered.{Start, start_of, Shape, shape, starts, readings_until, reading, reading_of, shape_of, rows_seen, cells_of, causes}
use Rattle.live_lanes.specs.Growth.{spot, raised_spots, RaisedAt, AllFounded, Grew, row_blocks, KeepsBlocks, Done, RaisesPiece}
use Rattle.live_lanes.proofs.Basics.{none-among, writes-append}
use Rattle.live_lanes.proofs.Growth.{at-grew, at-live, founded-kept}
use Rattle.live_lanes.proofs.Numbered.{among-cases, among-split}
use Rattle.live_lanes.proofs.Rows.{get-set, rows-set, row-of}
use Rattle.live_lanes.proofs.Sources.{starts-at}

some-inj : {X : Type 0} (x y : X) → Some x ≡ Some y → x ≡ y
some-inj x y e = cc

abbrev pub start_readings : Option Start → List LaneUse
start_readings None = []
start_readings (Some s) = s.readings

abbrev pub shape_readings : Shape → ℕ → List LaneUse
shape_readings h zero = h.readings
shape_readings h (suc k) = start_readings (slice_get h.segments k)

abbrev pub shape_certain : Shape → ℕ → Cause
shape_certain h n = cond (h.is_read_last && nat_eq n (length h.segments)) why.Phi (cause_of (find is_certain (reverse (shape_readings h n))))

segment-readings : (segments : List Begun) (k : ℕ) → begun_readings (slice_get segments k) ≡ start_readings (slice_get (map start_of segments) k)
segment-readings [] k = refl
segment-readings (s ∷ ss) zero = refl
segment-readings (s ∷ ss) (suc k) = segment-readings ss k

readings-shape : (v : Seen) (n : ℕ) → readings_in v n ≡ shape_readings (shape v) n
readings-shape v zero = refl
readings-shape v (suc k) = segment-readings v.segments k

pub certain-shape : (v : Seen) (n : ℕ) → certain_cause v n ≡ shape_certain (shape v) n
certain-shape v n = ap (λ r. cond (v.is_read_last && nat_eq n (length v.segments)) why.Phi (cause_of (find is_certain (reverse r)))) (readings-shape v n) ∙ ap (λ m. cond (v.is_read_last && nat_eq n m) why.Phi (cause_of (find is_certain (reverse (shape_readings (shape v) n))))) (sym (length-map v.segments start_of))

pub certain-same : (v w : Seen) (n : ℕ) → shape v ≡ shape w → certain_cause v n ≡ certain_cause w n
certain-same v w n e = certain-shape v n ∙ ap (λ h. shape_certain h n) e ∙ sym (certain-shape w n)

pub done-kept : (code : Code) (old new : List LaneRange) (x y : List PieceSpot) (l b n : ℕ) → Grew code old new x y → Done old l b n → Done new l b n
done-kept code old new x y l b n g d c = let h = d (ap is_live (certain-same (rows_seen old l b) (rows_seen new l b) n (sym (g.shapes l b))) ∙ c) in ap is_live (g.kept l b n h) ∙ h

pub same-length : (code : Code) (old new : List LaneRange) (x y : List PieceSpot) (l b : ℕ) → Grew code old new x y → length (rows_seen new l b).segments ≡ length (rows_seen old l b).segments
same-length code old new x y l b g = sym (length-map (rows_seen new l b).segments start_of) ∙ ap (λ h. length h.segments) (g.shapes l b) ∙ length-map (rows_seen old l b).segments start_of

-- a certain reading of a piece
find-some : (test : LaneUse → Bool) (xs : List LaneUse) (r : LaneUse) → find test xs ≡ Some r → (test r ≡ true) × Among r xs
find-some test [] r e = absurd (cc)
find-some test (x ∷ xs) r e = go (test x) refl e (λ f. find-some test xs r f)
  where
    go : (t : Bool) → test x ≡ t → cond t (Some x) (find test xs) ≡ Some r → (find test xs ≡ Some r → (test r ≡ true) × Among r xs) → (test r ≡ true) × Among r (x ∷ xs)
    go true f g ih = let s = some-inj x r g in (ap test (sym s) ∙ f, subst (λ y. Among r (y ∷ xs)) (sym s) here)
    go false f g ih = let z = ih g in (z.0, there z.1)

among-reversed : (r : LaneUse) (xs ys : List LaneUse) → Among r (reverse_aux xs ys) → Among r xs ⊎ Among r ys
among-reversed r [] ys a = inr a
among-reversed r (x ∷ xs) ys a = go (among-reversed r xs (x ∷ ys) a)
  where
    last : (r ≡ x) ⊎ Among r ys → Among r (x ∷ xs) ⊎ Among r ys
    last (inl e) = inl (subst (λ y. Among r (y ∷ xs)) e here)
    last (inr b) = inr b

    go : Among r xs ⊎ Among r (x ∷ ys) → Among r (x ∷ xs) ⊎ Among r ys
    go (inl b) = inl (there b)
    go (inr b) = last (among-cases r x ys b)

among-reverse : (r : LaneUse) (xs : List LaneUse) → Among r (reverse xs) → Among r xs
among-reverse r xs a = go (among-reversed r xs [] a)
  where
    go : Among r xs ⊎ Among r [] → Among r xs
    go (inl b) = b
    go (inr b) = absurd (none-among r b)

-- an instruction with a reading up to the next writing
pub record ReadsAt (l : ℕ) (r : LaneUse) (steps : List Step) : Type 0 where
  pub before : List Step
  pub step : Step
  pub rest : List Step
  pub split : steps ≡ before ++ step ∷ rest
  pub unwritten : writes_in l before ≡ 0
  pub reads : Among r (reading_of step.id (use_of l step))

pub reads-at : (l : ℕ) (r : LaneUse) (steps : List Step) → Among r (readings_until l steps) → ReadsAt l r steps
reads-at l r [] a = absurd (none-among r a)
reads-at l r (s ∷ ss) a = go (is_written l s) refl (among-split r (reading_of s.id (use_of l s)) (cond (is_written l s) [] (readings_until l ss)) a) (λ b. reads-at l r ss b)
  where
    go : (t : Bool) → is_written l s ≡ t → Among r (reading_of s.id (use_of l s)) ⊎ Among r (cond (is_written l s) [] (readings_until l ss)) → (Among r (readings_until l ss) → ReadsAt l r ss) → ReadsAt l r (s ∷ ss)
    go t e (inl b) ih = record { before = []; step = s; rest = ss; split = refl; unwritten = refl; reads = b }
    go true e (inr b) ih = absurd (none-among r (subst (λ t. Among r (cond t [] (readings_until l ss))) e b))
    go false e (inr b) ih =
        let z = ih (subst (λ t. Among r (cond t [] (readings_until l ss))) e b) in
        record { before = s ∷ z.before; step = z.step; rest = z.rest; split = ap (λ t. s ∷ t) z.split; unwritten = ap (λ t. cond t (suc (writes_in l z.before)) (writes_in l z.before)) e ∙ z.unwritten; reads = z.reads }

use-certain : (id : ℕ) (u : Use) (r : LaneUse) → Among r (reading_of id u) → is_certain r ≡ true → (u ≡ Certain) × (r.id ≡ id)
use-certain id Unused r a e = absurd (none-among r a)
use-certain id Certain r a e = go (among-cases r (reading id None) [] a)
  where
    go : (r ≡ reading id None) ⊎ Among r [] → (Certain ≡ Certain) × (r.id ≡ id)
    go (inl f) = (refl, ap (λ x. x.id) f)
    go (inr b) = absurd (none-among r b)
use-certain id (Into a') r a e = go (among-cases r (reading id (Some a')) [] a)
  where
    go : (r ≡ reading id (Some a')) ⊎ Among r [] → (Into a' ≡ Certain) × (r.id ≡ id)
    go (inl f) = absurd (let g : false ≡ true = ap is_certain (sym f) ∙ e in cc)
    go (inr b) = absurd (none-among r b)

pub length-starts : (l : ℕ) (steps : List Step) → length (starts l steps) ≡ writes_in l steps
length-starts l [] = refl
length-starts l (s ∷ ss) = go (writing_of l s.writes) (length-starts l ss)
  where
    go : (o : Option LaneDef) → length (starts l ss) ≡ writes_in l ss → length {A = Start} (elim o [ None ↦ starts l ss | Some w ↦ record { start = s.id; early = w.early; from = w.from; readings = readings_until l ss } ∷ starts l ss ]) ≡ cond (is_present o) (suc (writes_in l ss)) (writes_in l ss)
    go None ih = ih
    go (Some w) ih = let h = ih in omega (arith, h)

has-among : (l : ℕ) (xs : List ℕ) → has l xs ≡ true → Among l xs
has-among l [] e = absurd (cc)
has-among l (x ∷ xs) e = go (nat_eq x l) refl e (λ f. has-among l xs f)
  where
    go : (t : Bool) → nat_eq x l ≡ t → cond t true (has l xs) ≡ true → (has l xs ≡ true → Among l xs) → Among l (x ∷ xs)
    go true f g ih = subst (λ y. Among l (y ∷ xs)) (sym (eqb-true x l f)) here
    go false f g ih = there (ih g)

-- where a piece needs no other lane, its cause is right
module _ (code : Code) (new : Causes) (l b : ℕ) where
  -- the piece n holds a certain reading
  by-certain : (n : ℕ) (r : LaneUse) → is_certain r ≡ true → Among r (shape_readings (shape_of code l b) n) → new l b n ≡ why.Reading r.id → Founded code new l b n
  by-certain zero r e a c =
      let z = reads-at l r (steps_of code b) a in
      let u = use-certain z.step.id (use_of l z.step) r z.reads e in
      subst (Founded code new l b) z.unwritten (by_reading z.before z.step z.rest z.split (ap (new l b) z.unwritten ∙ c ∙ ap why.Reading u.1) u.0)
  by-certain (suc k) r e a c = go (slice_get (starts l (steps_of code b)) k) refl a
    where
      go : (o : Option Start) → slice_get (starts l (steps_of code b)) k ≡ o → Among r (start_readings o) → Founded code new l b (suc k)
      go None f m = absurd (none-among r m)
      go (Some st) f m =
          let g = starts-at l (steps_of code b) k st f in
          let z = reads-at l r g.rest (subst (Among r) g.readings m) in
          let u = use-certain z.step.id (use_of l z.step) r z.reads e in
          let before = (g.before ++ g.step ∷ []) ++ z.before in
          let split : steps_of code b ≡ before ++ z.step ∷ z.rest = g.split ∙ ap (λ t. g.before ++ g.step ∷ t) z.split ∙ sym (append_assoc g.before (g.step ∷ []) (z.before ++ z.step ∷ z.rest)) ∙ sym (append_assoc (g.before ++ g.step ∷ []) z.before (z.step ∷ z.rest)) in
          let count : writes_in l before ≡ suc k = (let w = writes-append l (g.before ++ g.step ∷ []) z.before in let x = g.number in let y = z.unwritten in omega arith) in
          subst (Founded code new l b) count (by_reading before z.step z.rest split (ap (new l b) count ∙ c ∙ ap why.Reading u.1) u.0)

  pub certain-founded : (n : ℕ) → is_live (shape_certain (shape_of code l b) n) ≡ true → new l b n ≡ shape_certain (shape_of code l b) n → Founded code new l b n
  certain-founded n live c = go (has l (last_of code b)) (nat_eq n (length (starts l (steps_of code b)))) refl refl live c
    where
      reading' : (o : Option LaneUse) → find is_certain (reverse (shape_readings (shape_of code l b) n)) ≡ o → is_live (cause_of o) ≡ true → new l b n ≡ cause_of o → Founded code new l b n
      reading' None f h k = absurd (cc)
      reading' (Some r) f h k = let z = find-some is_certain (reverse (shape_readings (shape_of code l b) n)) r f in by-certain n r z.0 (among-reverse r (shape_readings (shape_of code l b) n) z.1) k

      go : (t u : Bool) → has l (last_of code b) ≡ t → nat_eq n (length (starts l (steps_of code b))) ≡ u → is_live (cond (t && u) why.Phi (cause_of (find is_certain (reverse (shape_readings (shape_of code l b) n))))) ≡ true → new l b n ≡ cond (t && u) why.Phi (cause_of (find is_certain (reverse (shape_readings (shape_of code l b) n)))) → Founded code new l b n
      go true true f g h k =
          let at : n ≡ writes_in l (steps_of code b) = eqb-true n (length (starts l (steps_of code b))) g ∙ length-starts l (steps_of code b) in
          subst (Founded code new l b) (sym at) (by_phi (ap (new l b) (sym at) ∙ k) (has-among l (last_of code b) f))
      go true false f g h k = reading' (find is_certain (reverse (shape_readings (shape_of code l b) n))) refl h k
      go false u f g h k = reading' (find is_certain (reverse (shape_readings (shape_of code l b) n))) refl h k

-- rows of which nothing that is seen has changed
pub grew-same : (code : Code) (old new : List LaneRange) (from : List PieceSpot) → ((l b : ℕ) → rows_seen new l b ≡ rows_seen old l b) → length new ≡ length old → Grew code old new from from
grew-same code old new from e n = record {
  shapes = λ l b. ap shape (e l b);
  kept = λ l b k h. ap (λ v. cause_in v k) (e l b);
  added = [];
  list = sym (append-nil from);
  listed = λ l b k h. inl (ap (λ v. is_live (cause_in v k)) (sym (e l b)) ∙ h);
  risen = λ x a. absurd (none-among x a);
  founded = λ f l b k h. founded-kept code (causes old) (causes new) (λ l' b' k' h'. ap (λ v. cause_in v k') (e l' b')) (f l b k (ap (λ v. is_live (cause_in v k)) (sym (e l b)) ∙ h));
  lanes = n;
}

certain-within : (v : Seen) (n : ℕ) → is_live (certain_cause v n) ≡ true → n ≤ length v.segments
certain-within v zero e = omega arith
certain-within v (suc k) e = go v.is_read_last (nat_eq (suc k) (length v.segments)) (slice_get_cases v.segments k).1 refl e
  where
    go : (t u : Bool) → ((x : Begun) × (k < length v.segments) × (slice_get v.segments k ≡ Some x) × (get_or v.segments k x ≡ x)) ⊎ ((length v.segments ≤ k) × (slice_get v.segments k ≡ None)) → nat_eq (suc k) (length v.segments) ≡ u → is_live (cond (t && u) why.Phi (cause_of (find is_certain (reverse (begun_readings (slice_get v.segments k)))))) ≡ true → suc k ≤ length v.segments
    go t u (inl z) f g = let w = z.1 in omega arith
    go t true (inr z) f g = let w = eqb-true (suc k) (length v.segments) f in omega arith
    go true false (inr z) f g = absurd (none (slice_get v.segments k) z.1 g)
      where
        none : (o : Option Begun) → o ≡ None → is_live (cause_of (find is_certain (reverse (begun_readings o)))) ≡ true → ⊥
        none None p q = cc
        none (Some x) p q = cc
    go false false (inr z) f g = absurd (none (slice_get v.segments k) z.1 g)
      where
        none : (o : Option Begun) → o ≡ None → is_live (cause_of (find is_certain (reverse (begun_readings o)))) ≡ true → ⊥
        none None p q = cc
        none (Some x) p q = cc

module _ (rows : List LaneRange) (lane place index : ℕ) (x y : LaneRange) (h : lane < length rows) (is : x ≡ get_or rows lane x) where
  cells-are : cells_of rows lane ≡ x.cells.items
  cells-are = ap cells_in (slice_get-get_or rows lane x h ∙ ap Some (sym is))
    where
      cells_in : Option LaneRange → List Cell
      cells_in None = []
      cells_in (Some r) = r.cells.items

  pub keeps-blocks : blocks_of y.cells.items ≡ blocks_of x.cells.items → KeepsBlocks rows (set rows lane y)
  keeps-blocks e l = go (nat_eq lane l) refl
    where
      cells_in : Option LaneRange → List Cell
      cells_in o = elim o [ None ↦ [] | Some r ↦ r.cells.items ]

      go : (t : Bool) → nat_eq lane l ≡ t → row_blocks (set rows lane y) l ≡ row_blocks rows l
      go true f = ap (λ o. blocks_of (cells_in o)) (get-set rows lane l y h ∙ ap (λ t. cond t (Some y) (slice_get rows l)) f) ∙ e ∙ ap blocks_of (sym cells-are) ∙ ap (row_blocks rows) (eqb-true lane l f)
      go false f = ap (λ o. blocks_of (cells_in o)) (get-set rows lane l y h ∙ ap (λ t. cond t (Some y) (slice_get rows l)) f)

  pub piece-kept : (from : List PieceSpot) → KeepsCertain x.cells.items y.cells.items place index → RaisesPiece rows (set rows lane y) lane place index from from
  piece-kept from k code slots flow t = (grew-same code rows (set rows lane y) from same (length-set rows lane y), λ b e m c. done b e c)
    where
      same : (l b : ℕ) → rows_seen (set rows lane y) l b ≡ rows_seen rows l b
      same l b = rows-set rows lane l b y h ∙ go (nat_eq lane l) refl
        where
          go : (t : Bool) → nat_eq lane l ≡ t → cond t (seen_in y.cells.items b) (rows_seen rows l b) ≡ rows_seen rows l b
          go true f = k.seen b ∙ row-of rows lane b x h is ∙ ap (λ n. rows_seen rows n b) (eqb-true lane l f)
          go false f = refl

      done : (b : ℕ) → slice_get (row_blocks rows lane) place ≡ Some b → Done (set rows lane y) lane b index
      done b e c =
          let at = row-of rows lane b x h is in
          let d = k.done b (ap (λ cs. slice_get (blocks_of cs) place) (sym cells-are) ∙ e) (ap (λ v. is_live (certain_cause v index)) (at ∙ sym (same lane b)) ∙ c) in
          ap (λ v. is_live (cause_in v index)) (same lane b ∙ sym at) ∙ d

  pub piece-raised : (block : ℕ) (from to : List PieceSpot) → slice_get (blocks_of x.cells.items) place ≡ Some block → RaisesCertain x.cells.items y.cells.items block index → to ≡ from ++ spot lane block index ∷ [] → RaisesPiece rows (set rows lane y) lane place index from to
  piece-raised block from to e r g code slots flow t = (at-grew code rows (set rows lane y) lane block index cause from to within raised r.certain right, λ b f m c. done b f)
    where
      old : Seen
      old = rows_seen rows lane block

      at : seen_in x.cells.items block ≡ old
      at = row-of rows lane block x h is

      cause : Cause
      cause = certain_cause (seen_in x.cells.items block) index

      dead : is_live (causes rows lane block index) ≡ false
      dead = ap (λ v. is_live (cause_in v index)) (sym at) ∙ r.dead

      within : index ≤ length (rows_seen rows lane block).segments
      within = subst (λ v. index ≤ length v.segments) at (certain-within (seen_in x.cells.items block) index r.certain)

      raised : RaisedAt rows (set rows lane y) lane block index cause from to
      raised = record {
        seen = λ l b. rows-set rows lane l b y h ∙ go (nat_eq lane l) (nat_eq block b) l b refl refl;
        list = g ∙ sym (ap (λ t. from ++ raised_spots t (spot lane block index)) dead);
        lanes = length-set rows lane y;
      }
        where
          go : (u v : Bool) (l b : ℕ) → nat_eq lane l ≡ u → nat_eq block b ≡ v → cond u (seen_in y.cells.items b) (rows_seen rows l b) ≡ cond (u && v) (raised_seen (is_live (causes rows lane block index)) (rows_seen rows lane block) index cause) (rows_seen rows l b)
          go true true l b f k = r.seen b ∙ ap (λ z. cond z (with_cause (seen_in x.cells.items block) index cause) (seen_in x.cells.items b)) k ∙ ap (λ v. with_cause v index cause) at ∙ sym (ap (λ z. raised_seen z (rows_seen rows lane block) index cause) dead)
          go true false l b f k = r.seen b ∙ ap (λ z. cond z (with_cause (seen_in x.cells.items block) index cause) (seen_in x.cells.items b)) k ∙ row-of rows lane b x h is ∙ ap (λ n. rows_seen rows n b) (eqb-true lane l f)
          go false v l b f k = refl

      right : causes (set rows lane y) lane block index ≡ cause → ((l b k : ℕ) → is_live (causes rows l b k) ≡ true → causes (set rows lane y) l b k ≡ causes rows l b k) → AllFounded code (causes rows) → Founded code (causes (set rows lane y)) lane block index
      right c kept f =
          let same : cause ≡ shape_certain (shape_of code lane block) index = ap (λ v. certain_cause v index) at ∙ certain-shape old index ∙ ap (λ z. shape_certain z index) (t.entered lane block) in
          certain-founded code (causes (set rows lane y)) lane block index (ap is_live (sym same) ∙ r.certain) (c ∙ same)

      done : (b : ℕ) → slice_get (row_blocks rows lane) place ≡ Some b → is_live (causes (set rows lane y) lane b index) ≡ true
      done b f =
          let k : Some block ≡ Some b = sym e ∙ ap (λ cs. slice_get (blocks_of cs) place) (sym cells-are) ∙ f in
          subst (λ z. is_live (causes (set rows lane y) lane z index) ≡ true) (some-inj block b k) (at-live code rows (set rows lane y) lane block index cause from to within raised r.certain)

-- a lane without a row has no cells
pub no-row : (rows : List LaneRange) (lane : ℕ) → length rows ≤ lane → row_blocks rows lane ≡ []
no-row rows lane h = go (slice_get_cases rows lane).1
  where
    cells_in : Option LaneRange → List Cell
    cells_in o = elim o [ None ↦ [] | Some r ↦ r.cells.items ]

    go : ((x : LaneRange) × (lane < length rows) × (slice_get rows lane ≡ Some x) × (get_or rows lane x ≡ x)) ⊎ ((length rows ≤ lane) × (slice_get rows lane ≡ None)) → row_blocks rows lane ≡ []
    go (inl z) = absurd (let w = z.1 in omega arith)
    go (inr z) = ap (λ o. blocks_of (cells_in o)) z.1

pub piece-none : (rows : List LaneRange) (lane place index : ℕ) (from : List PieceSpot) → length rows ≤ lane → RaisesPiece rows rows lane place index from from
piece-none rows lane place index from h code slots flow t = (grew-same code rows rows from (λ l b. refl) refl, λ b e m c. absurd (no b (ap (λ bs. slice_get bs place) (sym (no-row rows lane h)) ∙ e)))
  where
    no : (b : ℕ) → slice_get {X = ℕ} [] place ≡ Some b → ⊥
    no b e = cc
