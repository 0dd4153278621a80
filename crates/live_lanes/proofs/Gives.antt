-- Giving pieces their ends: of a cell, of a lane, of all lanes.
use Rattle.std.proofs.Common.{◌≡◌, ◌<◌, ◌≤◌, ℕ, zero, suc, ◌+◌, Bool, true, false, cond, length, List, [], ◌∷◌, ◌⊎◌, Option, None, Some, refl, sym, ap, ◌∙◌, subst, inl, inr, arith, get_or, set, map, eqb-true, eq-eqb}
use mathlib.Core.Path.{fun_ext}
use Rattle.std.specs.Prelude.{slice_get, nat_eq}
use Rattle.std.proofs.lemmas.List.{length-map}
use Rattle.std.proofs.lemmas.Bool.{cases_lt}
use Rattle.std.proofs.lemmas.Option.{slice_get-get_or, slice_get_past}
use Rattle.live_lanes.specs.declared.compute.flow.BlockFlow.{BlockFlow}
use Rattle.live_lanes.specs.declared.row.Cause.TheVariants as whys
use Rattle.live_lanes.specs.declared.row.Cell.{Cell}
use Rattle.live_lanes.specs.declared.row.PieceEnd.{PieceEnd}
use Rattle.live_lanes.specs.declared.row.PieceEnd.TheVariants as ends
use Rattle.live_lanes.specs.declared.row.LaneRange.{LaneRange}
use Rattle.live_lanes.specs.Graph.{Causes, is_live}
use Rattle.live_lanes.specs.Table.{Numbers, Begun, begun, begun_with_end, begun_cause, begun_end, changed_at, Seen, unseen, seen_in, seen_cell, cause_in, end_in, with_end, with_end_at, rises_from}
use Rattle.live_lanes.specs.Entered.{Start, Shape, start_of, shape, rows_seen, cells_of, causes, piece_count}
use Rattle.live_lanes.specs.Growth.{row_blocks, KeepsBlocks}
use Rattle.live_lanes.specs.Marks.{KeepsCauses}
use Rattle.live_lanes.specs.Ends.{row_end}
use Rattle.live_lanes.specs.Lasting.{Shapes, shapes, live_end, right_end, readings_of, cell_end, SetsEnd, Lasts, GivesEnds, AllRise}
use Rattle.live_lanes.proofs.Certainty.{lt-cases, block-cell, cell-tells, place-or-unseen}
use Rattle.live_lanes.proofs.Numbered.{ids-rise, rises-ids, map-twice}
use Rattle.live_lanes.proofs.Rows.{rows-set, row-of}
use Rattle.live_lanes.proofs.Segments.{changed-past}

-- what causes and shapes tell stays where only ends change

rises-shape : (slots : Numbers) (v : Seen) → rises_from slots 0 v.segments ≡ ids-rise slots 0 (map (λ (s : Start). s.start) (shape v).segments)
rises-shape slots v = rises-ids slots 0 v.segments ∙ ap (ids-rise slots 0) (map-twice v.segments)

pub all-rise : (slots : Numbers) (old new : List LaneRange) → ((l b : ℕ) → shape (rows_seen new l b) ≡ shape (rows_seen old l b)) → AllRise slots old → AllRise slots new
all-rise slots old new k r l b = rises-shape slots (rows_seen new l b) ∙ ap (λ (h : Shape). ids-rise slots 0 (map (λ (s : Start). s.start) h.segments)) (k l b) ∙ sym (rises-shape slots (rows_seen old l b)) ∙ r l b

pub right-kept : (slots : Numbers) (flow : List BlockFlow) (old new : List LaneRange) → KeepsCauses old new → (l b n : ℕ) → right_end slots flow (causes new) (shapes new) l b n ≡ right_end slots flow (causes old) (shapes old) l b n
right-kept slots flow old new k l b n =
    let why : causes new ≡ causes old = fun_ext (λ i. fun_ext (λ j. fun_ext (λ m. k.causes i j m))) in
    let seen : shapes new ≡ shapes old = fun_ext (λ i. fun_ext (λ j. k.shapes i j)) in
    ap (λ (w : Causes). right_end slots flow w (shapes new) l b n) why ∙ ap (λ (h : Shapes). right_end slots flow (causes old) h l b n) seen

-- a piece that isn't live and has no end

dead-lasts : (slots : Numbers) (flow : List BlockFlow) (rows : List LaneRange) (l b n : ℕ) → causes rows l b n ≡ whys.None → row_end rows l b n ≡ ends.Never → Lasts slots flow rows rows l b n
dead-lasts slots flow rows l b n e f = f ∙ sym (ap (λ c. cond (is_live c) (live_end slots flow (causes rows) (shapes rows) (shapes rows l b) l b n (causes rows l b n) (readings_of (shapes rows l b) n)) ends.Never) e)

past-cause : (ss : List Begun) (k : ℕ) → length ss ≤ k → (begun_cause (slice_get ss k) ≡ whys.None) × (begun_end (slice_get ss k) ≡ ends.Never)
past-cause ss k h = let e = slice_get_past ss k h in (ap begun_cause e, ap begun_end e)

past-in : (v : Seen) (n : ℕ) → length v.segments < n → (cause_in v n ≡ whys.None) × (end_in v n ≡ ends.Never)
past-in v zero h = absurd (omega arith)
past-in v (suc k) h = past-cause v.segments k (omega arith)

pub past-lasts : (slots : Numbers) (flow : List BlockFlow) (rows : List LaneRange) (l b n : ℕ) → length (rows_seen rows l b).segments < n → Lasts slots flow rows rows l b n
past-lasts slots flow rows l b n h = let z = past-in (rows_seen rows l b) n h in dead-lasts slots flow rows l b n z.0 z.1

none-in : (n : ℕ) → (cause_in unseen n ≡ whys.None) × (end_in unseen n ≡ ends.Never)
none-in zero = (refl, refl)
none-in (suc n) = (refl, refl)

pub unseen-lasts : (slots : Numbers) (flow : List BlockFlow) (rows : List LaneRange) (l b n : ℕ) → rows_seen rows l b ≡ unseen → Lasts slots flow rows rows l b n
unseen-lasts slots flow rows l b n e = let z = none-in n in dead-lasts slots flow rows l b n (ap (λ v. cause_in v n) e ∙ z.0) (ap (λ v. end_in v n) e ∙ z.1)

-- one end

changed-here : (e : PieceEnd) (ss : List Begun) (k : ℕ) → k < length ss → begun_end (slice_get (changed_at k (begun_with_end e) ss) k) ≡ e
changed-here e [] k h = absurd (omega arith)
changed-here e (s ∷ ss) zero h = refl
changed-here e (s ∷ ss) (suc k) h = changed-here e ss k (omega arith)

changed-other : (e : PieceEnd) (ss : List Begun) (k n : ℕ) → (n ≡ k → ⊥) → begun_end (slice_get (changed_at k (begun_with_end e) ss) n) ≡ begun_end (slice_get ss n)
changed-other e [] k n d = refl
changed-other e (s ∷ ss) zero zero d = absurd (d refl)
changed-other e (s ∷ ss) zero (suc n) d = refl
changed-other e (s ∷ ss) (suc k) zero d = refl
changed-other e (s ∷ ss) (suc k) (suc n) d = changed-other e ss k n (λ f. d (ap suc f))

end-here : (v : Seen) (k : ℕ) (e : PieceEnd) → k ≤ length v.segments → end_in (with_end v k e) k ≡ e
end-here v zero e h = refl
end-here v (suc k) e h = changed-here e v.segments k (omega arith)

end-other : (v : Seen) (k n : ℕ) (e : PieceEnd) → (n ≡ k → ⊥) → end_in (with_end v k e) n ≡ end_in v n
end-other v zero zero e d = absurd (d refl)
end-other v zero (suc n) e d = refl
end-other v (suc k) zero e d = refl
end-other v (suc k) (suc n) e d = changed-other e v.segments k n (λ f. d (ap suc f))

-- in a row, a piece either keeps its end or is the one that gets another
abbrev Kept : List LaneRange → List LaneRange → ℕ → ℕ → ℕ → Type 0
Kept mid new l b n = row_end new l b n ≡ row_end mid l b n

record Given (mid new : List LaneRange) (lane place k : ℕ) (e : PieceEnd) (l b n : ℕ) : Type 0 where
  cell : Cell
  there : slice_get (cells_of mid lane) place ≡ Some cell
  block : cell.block ≡ b
  own : lane ≡ l
  index : n ≡ k
  is : row_end new l b n ≡ e

module _ (mid new : List LaneRange) (lane place k : ℕ) (e : PieceEnd) (s : SetsEnd mid new lane place k e) where
  set-cases : (l b n : ℕ) → Kept mid new l b n ⊎ Given mid new lane place k e l b n
  set-cases l b n = go (nat_eq lane l) refl
    where
      by : (u : Bool) → nat_eq n k ≡ u → (c : Cell) → slice_get (cells_of mid lane) place ≡ Some c → nat_eq c.block b ≡ true → nat_eq lane l ≡ true → row_end new l b n ≡ end_in (with_end (rows_seen mid l b) k e) n → Kept mid new l b n ⊎ Given mid new lane place k e l b n
      by false d c f g i m = inl (m ∙ end-other (rows_seen mid l b) k n e (λ q. absurd (let z : true ≡ false = sym (eq-eqb n k q) ∙ d in cc)))
      by true d c f g i m = within (cases_lt (length (rows_seen mid l b).segments) k)
        where
          same : n ≡ k
          same = eqb-true n k d

          within : ((length (rows_seen mid l b).segments < k) ⊎ (k ≤ length (rows_seen mid l b).segments)) → Kept mid new l b n ⊎ Given mid new lane place k e l b n
          within (inl h) = inl (m ∙ beyond k h)
            where
              beyond : (j : ℕ) → length (rows_seen mid l b).segments < j → end_in (with_end (rows_seen mid l b) j e) n ≡ end_in (rows_seen mid l b) n
              beyond zero h = absurd (omega arith)
              beyond (suc j) h = ap (λ ss. end_in (record (rows_seen mid l b) { segments = ss }) n) (changed-past (begun_with_end e) (rows_seen mid l b).segments j (omega arith))
          within (inr h) = inr (record { cell = c; there = f; block = eqb-true c.block b g; own = eqb-true lane l i; index = same; is = m ∙ ap (λ j. end_in (with_end (rows_seen mid l b) k e) j) same ∙ end-here (rows_seen mid l b) k e h })

      inside : (q : Option Cell) → slice_get (cells_of mid lane) place ≡ q → nat_eq lane l ≡ true → rows_seen new l b ≡ with_end_at q k e (rows_seen mid l b) b → Kept mid new l b n ⊎ Given mid new lane place k e l b n
      inside None f i m = inl (ap (λ v. end_in v n) m)
      inside (Some c) f i m = block (nat_eq c.block b) refl
        where
          block : (u : Bool) → nat_eq c.block b ≡ u → Kept mid new l b n ⊎ Given mid new lane place k e l b n
          block true g = by (nat_eq n k) refl c f g i (ap (λ v. end_in v n) (m ∙ ap (λ u. cond u (with_end (rows_seen mid l b) k e) (rows_seen mid l b)) g))
          block false g = inl (ap (λ v. end_in v n) (m ∙ ap (λ u. cond u (with_end (rows_seen mid l b) k e) (rows_seen mid l b)) g))

      go : (u : Bool) → nat_eq lane l ≡ u → Kept mid new l b n ⊎ Given mid new lane place k e l b n
      go true i = inside (slice_get (cells_of mid lane) place) refl i (s l b ∙ ap (λ u. cond u (with_end_at (slice_get (cells_of mid lane) place) k e (rows_seen mid l b) b) (rows_seen mid l b)) i)
      go false i = inl (ap (λ v. end_in v n) (s l b ∙ ap (λ u. cond u (with_end_at (slice_get (cells_of mid lane) place) k e (rows_seen mid l b) b) (rows_seen mid l b)) i))

-- as far as the loop over the pieces of a cell has come
pub record SomeEnded (slots : Numbers) (flow : List BlockFlow) (old new : List LaneRange) (lane place k : ℕ) : Type 0 where
  pub done : (b n : ℕ) → slice_get (row_blocks old lane) place ≡ Some b → n < k → Lasts slots flow old new lane b n
  pub kept : (l b n : ℕ) → Lasts slots flow old old l b n → Lasts slots flow old new l b n

pub ended-none : (slots : Numbers) (flow : List BlockFlow) (rows : List LaneRange) (lane place : ℕ) → SomeEnded slots flow rows rows lane place 0
ended-none slots flow rows lane place = record { done = λ b n e h. absurd (omega arith); kept = λ l b n f. f }

pub ended-more : (slots : Numbers) (flow : List BlockFlow) (old mid new : List LaneRange) (lane place k : ℕ) (e : PieceEnd) → KeepsCauses old mid → KeepsBlocks old mid → SomeEnded slots flow old mid lane place k
    → e ≡ cell_end slots flow (causes mid) (shapes mid) lane k (slice_get (cells_of mid lane) place) → SetsEnd mid new lane place k e → SomeEnded slots flow old new lane place (k + 1)
ended-more slots flow old mid new lane place k e keeps blocks so is s = record {
  done = λ b n f h. go b n f (lt-cases n k h);
  kept = λ l b n f. step l b n (so.kept l b n f);
}
  where
    right : (l b n : ℕ) → Given mid new lane place k e l b n → Lasts slots flow old new l b n
    right l b n z =
        z.is ∙ is ∙ ap (cell_end slots flow (causes mid) (shapes mid) lane k) z.there ∙ ap (λ j. right_end slots flow (causes mid) (shapes mid) lane j k) z.block
        ∙ ap (λ i. right_end slots flow (causes mid) (shapes mid) i b k) z.own ∙ ap (λ m. right_end slots flow (causes mid) (shapes mid) l b m) (sym z.index) ∙ right-kept slots flow old mid keeps l b n

    step : (l b n : ℕ) → Lasts slots flow old mid l b n → Lasts slots flow old new l b n
    step l b n f = by (set-cases mid new lane place k e s l b n)
      where
        by : Kept mid new l b n ⊎ Given mid new lane place k e l b n → Lasts slots flow old new l b n
        by (inl g) = g ∙ f
        by (inr z) = right l b n z

    now : (b : ℕ) → slice_get (row_blocks old lane) place ≡ Some b → Lasts slots flow old new lane b k
    now b f = by (cases_lt (length (rows_seen mid lane b).segments) k)
      where
        by : ((length (rows_seen mid lane b).segments < k) ⊎ (k ≤ length (rows_seen mid lane b).segments)) → Lasts slots flow old new lane b k
        by (inl h) = step lane b k (past-lasts slots flow mid lane b k h ∙ right-kept slots flow old mid keeps lane b k)
        by (inr h) =
            let z = block-cell (cells_of mid lane) place b (ap (λ bs. slice_get bs place) (blocks lane) ∙ f) in
            let one : nat_eq lane lane ≡ true = eq-eqb lane lane refl in
            let two : nat_eq z.0.block b ≡ true = eq-eqb z.0.block b z.2 in
            let m : rows_seen new lane b ≡ with_end (rows_seen mid lane b) k e = s lane b ∙ ap (λ u. cond u (with_end_at (slice_get (cells_of mid lane) place) k e (rows_seen mid lane b) b) (rows_seen mid lane b)) one ∙ ap (λ q. with_end_at q k e (rows_seen mid lane b) b) z.1 ∙ ap (λ u. cond u (with_end (rows_seen mid lane b) k e) (rows_seen mid lane b)) two in
            right lane b k (record { cell = z.0; there = z.1; block = z.2; own = refl; index = refl; is = ap (λ v. end_in v k) m ∙ end-here (rows_seen mid lane b) k e h })

    go : (b n : ℕ) → slice_get (row_blocks old lane) place ≡ Some b → (n < k) ⊎ (n ≡ k) → Lasts slots flow old new lane b n
    go b n f (inl h) = step lane b n (so.done b n f h)
    go b n f (inr q) = subst (λ m. Lasts slots flow old new lane b m) (sym q) (now b f)

pub ended-all : (slots : Numbers) (flow : List BlockFlow) (old new : List LaneRange) (lane place k : ℕ) → piece_count (slice_get (cells_of old lane) place) ≤ k → SomeEnded slots flow old new lane place k → GivesEnds slots flow old new (λ l b. (l ≡ lane) × (slice_get (row_blocks old lane) place ≡ Some b))
ended-all slots flow old new lane place k h so = record {
  given = λ l b n z. subst (λ i. Lasts slots flow old new i b n) (sym z.0) (go b n z.1 (cases_lt n k));
  kept = so.kept;
}
  where
    go : (b n : ℕ) → slice_get (row_blocks old lane) place ≡ Some b → ((n < k) ⊎ (k ≤ n)) → Lasts slots flow old new lane b n
    go b n e (inl w) = so.done b n e w
    go b n e (inr w) =
        let z = cell-tells old lane place b e in
        let long = ap (λ v. length v.segments) z.2 ∙ length-map z.0.segments.items begun in
        let count = ap piece_count z.1 in
        so.kept lane b n (past-lasts slots flow old lane b n (omega (arith, h, w, long, count)))

-- as far as the loop over the cells of a lane has come
pub record SomeCellsEnded (slots : Numbers) (flow : List BlockFlow) (old new : List LaneRange) (lane k : ℕ) : Type 0 where
  pub done : (p b n : ℕ) → p < k → slice_get (row_blocks old lane) p ≡ Some b → Lasts slots flow old new lane b n
  pub kept : (l b n : ℕ) → Lasts slots flow old old l b n → Lasts slots flow old new l b n

pub cells-none : (slots : Numbers) (flow : List BlockFlow) (rows : List LaneRange) (lane : ℕ) → SomeCellsEnded slots flow rows rows lane 0
cells-none slots flow rows lane = record { done = λ p b n h e. absurd (omega arith); kept = λ l b n f. f }

-- what keeps its ends beside the middle of the way does so beside its beginning
onward : (slots : Numbers) (flow : List BlockFlow) (old mid new : List LaneRange) → KeepsCauses old mid → ((l b n : ℕ) → Lasts slots flow mid mid l b n → Lasts slots flow mid new l b n) → (l b n : ℕ) → Lasts slots flow old mid l b n → Lasts slots flow old new l b n
onward slots flow old mid new keeps f l b n g = let r = right-kept slots flow old mid keeps l b n in f l b n (g ∙ sym r) ∙ r

pub cells-more : (slots : Numbers) (flow : List BlockFlow) (old mid new : List LaneRange) (lane k : ℕ) → KeepsCauses old mid → KeepsBlocks old mid → SomeCellsEnded slots flow old mid lane k → GivesEnds slots flow mid new (λ l b. (l ≡ lane) × (slice_get (row_blocks mid lane) k ≡ Some b)) → SomeCellsEnded slots flow old new lane (k + 1)
cells-more slots flow old mid new lane k keeps blocks so g = record {
  done = λ p b n h e. go p b n e (lt-cases p k h);
  kept = λ l b n f. step l b n (so.kept l b n f);
}
  where
    step : (l b n : ℕ) → Lasts slots flow old mid l b n → Lasts slots flow old new l b n
    step = onward slots flow old mid new keeps g.kept

    go : (p b n : ℕ) → slice_get (row_blocks old lane) p ≡ Some b → (p < k) ⊎ (p ≡ k) → Lasts slots flow old new lane b n
    go p b n e (inl h) = step lane b n (so.done p b n h e)
    go p b n e (inr q) = g.given lane b n (refl, ap (λ bs. slice_get bs k) (blocks lane) ∙ ap (slice_get (row_blocks old lane)) (sym q) ∙ e) ∙ right-kept slots flow old mid keeps lane b n

pub cells-all : (slots : Numbers) (flow : List BlockFlow) (old new : List LaneRange) (lane k : ℕ) → length (cells_of old lane) ≤ k → SomeCellsEnded slots flow old new lane k → GivesEnds slots flow old new (λ l b. l ≡ lane)
cells-all slots flow old new lane k h so = record {
  given = λ l b n z. subst (λ i. Lasts slots flow old new i b n) (sym z) (go b n (place-or-unseen old lane b));
  kept = so.kept;
}
  where
    go : (b n : ℕ) → ((p : ℕ) × (p < length (cells_of old lane)) × (slice_get (row_blocks old lane) p ≡ Some b)) ⊎ (rows_seen old lane b ≡ unseen) → Lasts slots flow old new lane b n
    go b n (inl z) = so.done z.0 b n (let q = z.1 in omega (arith, q, h)) z.2
    go b n (inr e) = so.kept lane b n (unseen-lasts slots flow old lane b n e)

-- as far as the loop over the lanes has come
pub record SomeLanesEnded (slots : Numbers) (flow : List BlockFlow) (old new : List LaneRange) (k : ℕ) : Type 0 where
  pub done : (l b n : ℕ) → l < k → Lasts slots flow old new l b n
  pub kept : (l b n : ℕ) → Lasts slots flow old old l b n → Lasts slots flow old new l b n

pub lanes-none : (slots : Numbers) (flow : List BlockFlow) (rows : List LaneRange) → SomeLanesEnded slots flow rows rows 0
lanes-none slots flow rows = record { done = λ l b n h. absurd (omega arith); kept = λ l b n f. f }

pub lanes-more : (slots : Numbers) (flow : List BlockFlow) (old mid new : List LaneRange) (k : ℕ) → KeepsCauses old mid → SomeLanesEnded slots flow old mid k → GivesEnds slots flow mid new (λ l b. l ≡ k) → SomeLanesEnded slots flow old new (k + 1)
lanes-more slots flow old mid new k keeps so g = record {
  done = λ l b n h. go l b n (lt-cases l k h);
  kept = λ l b n f. step l b n (so.kept l b n f);
}
  where
    step : (l b n : ℕ) → Lasts slots flow old mid l b n → Lasts slots flow old new l b n
    step = onward slots flow old mid new keeps g.kept

    go : (l b n : ℕ) → (l < k) ⊎ (l ≡ k) → Lasts slots flow old new l b n
    go l b n (inl h) = step l b n (so.done l b n h)
    go l b n (inr q) = g.given l b n q ∙ right-kept slots flow old mid keeps l b n

pub lanes-all : (slots : Numbers) (flow : List BlockFlow) (old new : List LaneRange) (k : ℕ) → length old ≤ k → SomeLanesEnded slots flow old new k → (l b n : ℕ) → Lasts slots flow old new l b n
lanes-all slots flow old new k h so l b n = go (cases_lt l k)
  where
    go : ((l < k) ⊎ (k ≤ l)) → Lasts slots flow old new l b n
    go (inl w) = so.done l b n w
    go (inr w) = so.kept l b n (unseen-lasts slots flow old l b n (ap (λ (q : Option LaneRange). elim q [ None ↦ unseen | Some r ↦ seen_in r.cells.items b ]) (slice_get_past old l (omega (arith, h, w)))))

-- a row of which a piece gets an end
pub sets-row : (rows : List LaneRange) (lane : ℕ) (x y : LaneRange) (place index : ℕ) (e : PieceEnd) → lane < length rows → x ≡ get_or rows lane x → ((b : ℕ) → seen_in y.cells.items b ≡ with_end_at (slice_get x.cells.items place) index e (seen_in x.cells.items b) b) → SetsEnd rows (set rows lane y) lane place index e
sets-row rows lane x y place index e h is s l b = rows-set rows lane l b y h ∙ go (nat_eq lane l) refl
  where
    cells : cells_of rows lane ≡ x.cells.items
    cells = ap (λ (q : Option LaneRange). elim q [ None ↦ [] | Some r ↦ r.cells.items ]) (slice_get-get_or rows lane x h ∙ ap Some (sym is))

    go : (u : Bool) → nat_eq lane l ≡ u → cond u (seen_in y.cells.items b) (rows_seen rows l b) ≡ cond u (with_end_at (slice_get (cells_of rows lane) place) index e (rows_seen rows l b) b) (rows_seen rows l b)
    go true f =
        s b ∙ ap (λ v. with_end_at (slice_get x.cells.items place) index e v b) (row-of rows lane b x h is ∙ ap (λ i. rows_seen rows i b) (eqb-true lane l f))
        ∙ ap (λ cs. with_end_at (slice_get cs place) index e (rows_seen rows l b) b) (sym cells)
    go false f = refl

pub sets-none : (rows : List LaneRange) (lane place index : ℕ) (e : PieceEnd) → length rows ≤ lane → SetsEnd rows rows lane place index e
sets-none rows lane place index e h l b = go (nat_eq lane l)
  where
    none : cells_of rows lane ≡ []
    none = ap (λ (q : Option LaneRange). elim q [ None ↦ [] | Some r ↦ r.cells.items ]) (slice_get_past rows lane h)

    go : (u : Bool) → rows_seen rows l b ≡ cond u (with_end_at (slice_get (cells_of rows lane) place) index e (rows_seen rows l b) b) (rows_seen rows l b)
    go true = sym (ap (λ cs. with_end_at (slice_get cs place) index e (rows_seen rows l b) b) none)
    go false = refl
