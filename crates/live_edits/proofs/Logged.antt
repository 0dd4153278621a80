-- Logged changes follow one another.
use Rattle.std.proofs.Common.{◌≡◌, ◌≤◌, ℕ, true, List, [], ◌∷◌, ◌++◌, ◌⊎◌, inl, inr, refl, sym, ap, ◌∙◌, append_assoc, append-nil, length, arith}
use Rattle.std.proofs.lemmas.Bool.{leb-true, le-leb}
use Rattle.mir_meaning.specs.Paths.{Among}
use Rattle.live_lanes.specs.declared.row.LaneRange.{LaneRange}
use Rattle.live_lanes.specs.declared.table.LaneRanges.{LaneRanges}
use Rattle.live_lanes.specs.Entered.{rows_seen}
use Rattle.live_lanes.proofs.Basics.{none-among}
use Rattle.live_lanes.proofs.Cells.{both, both-left, both-right}
use Rattle.live_lanes.proofs.Numbered.{among-split}
use Rattle.live_edits.specs.declared.cell_change.CellChange.{CellChange}
use Rattle.live_edits.specs.declared.cell_change.CellChange.TheVariants as changes
use Rattle.live_edits.specs.CellChanges.{fits_in}
use Rattle.live_edits.specs.declared.log.Former.{Former}
use Rattle.live_edits.specs.declared.log.Former.TheVariants as formers
use Rattle.live_edits.specs.declared.log.LoggedRows.{LoggedRows}
use Rattle.live_edits.specs.Logged.{AllSeen, all_taken_back, taken_back, has_cell, room_of, cell_there, is_life, HasAllCells, IsLogged, LogsLives}

-- no cell goes
abbrev pub KeepsCells : List LaneRange → List LaneRange → Type 0
KeepsCells old new = (l b : ℕ) → has_cell old l b ≡ true → has_cell new l b ≡ true

-- nor any room
abbrev pub KeepsRooms : List LaneRange → List LaneRange → Type 0
KeepsRooms old new = (l b : ℕ) → room_of old l b ≤ room_of new l b

-- what fits a room fits a larger one
pub still-fits : (c : CellChange) (n m : ℕ) → n ≤ m → fits_in c n ≡ true → fits_in c m ≡ true
still-fits (changes.Readings index readings) n m h f = refl
still-fits (changes.SetReading index at into) n m h f = refl
still-fits (changes.Writing at early from) n m h f = refl
still-fits (changes.Begin at piece count) n m h f = let k = leb-true count n f in le-leb count m (omega (arith, h, k))
still-fits (changes.Join at) n m h f = refl

pub all-taken-back-append : (es fs : List Former) (seen : AllSeen) → all_taken_back (es ++ fs) seen ≡ all_taken_back es (all_taken_back fs seen)
all-taken-back-append [] fs seen = refl
all-taken-back-append (e ∷ es) fs seen = ap (taken_back e) (all-taken-back-append es fs seen)

pub cell-stays : (old new : List LaneRange) → KeepsCells old new → KeepsRooms old new → (e : Former) → cell_there old e ≡ true → cell_there new e ≡ true
cell-stays old new k r (formers.Life spot cause end) h = k spot.lane spot.block h
cell-stays old new k r (formers.Shape lane block change) h =
    let has = both-left (has_cell old lane block) (fits_in change (room_of old lane block)) h in
    let fits = both-right (has_cell old lane block) (fits_in change (room_of old lane block)) h in
    both (has_cell new lane block) (fits_in change (room_of new lane block)) (k lane block has) (still-fits change (room_of old lane block) (room_of new lane block) (r lane block) fits)
cell-stays old new k r (formers.Read spot at) h = k spot.lane spot.block h

pub cells-stay : (old new : List LaneRange) → KeepsCells old new → KeepsRooms old new → (es : List Former) → HasAllCells old es → HasAllCells new es
cells-stay old new k r es h e a = cell-stays old new k r e (h e a)

pub logged-same : (x : LoggedRows) → IsLogged x x
logged-same x = record {
  added = [];
  list = sym (append-nil x.log.items);
  back = λ l b. refl;
  lanes = refl;
  cells = λ l b h. h;
  rooms = λ l b. omega arith;
  there = λ e a. absurd (none-among e a);
}

-- the same rows, and the same changes that are logged
pub logged-alike : (x y : LoggedRows) → y.rows ≡ x.rows → y.log.items ≡ x.log.items → IsLogged x y
logged-alike x y rows log = record {
  added = [];
  list = log ∙ sym (append-nil x.log.items);
  back = λ l b. ap (λ (r : LaneRanges). rows_seen r.rows.items l b) rows;
  lanes = ap (λ (r : LaneRanges). length r.rows.items) rows;
  cells = λ l b h. ap (λ (r : LaneRanges). has_cell r.rows.items l b) rows ∙ h;
  rooms = λ l b. let e = ap (λ (r : LaneRanges). room_of r.rows.items l b) rows in omega (arith, e);
  there = λ e a. absurd (none-among e a);
}

pub logged-then : (x y z : LoggedRows) → IsLogged x y → IsLogged y z → IsLogged x z
logged-then x y z p q = record {
  added = p.added ++ q.added;
  list = q.list ∙ (ap (λ es. es ++ q.added) p.list ∙ append_assoc x.log.items p.added q.added);
  back = λ l b. ap (λ f. f l b) (all-taken-back-append p.added q.added (rows_seen z.rows.rows.items)) ∙ (ap (λ f. all_taken_back p.added f l b) between ∙ p.back l b);
  lanes = q.lanes ∙ p.lanes;
  cells = λ l b h. q.cells l b (p.cells l b h);
  rooms = λ l b. more (p.rooms l b) (q.rooms l b);
  there = λ e a. go e (among-split e p.added q.added a);
}
  where
    more : {i j k : ℕ} → i ≤ j → j ≤ k → i ≤ k
    more {i} {j} {k} f g = omega (arith, f, g)

    between : all_taken_back q.added (rows_seen z.rows.rows.items) ≡ rows_seen y.rows.rows.items
    between = λ i. λ l b. q.back l b i

    go : (e : Former) → Among e p.added ⊎ Among e q.added → cell_there z.rows.rows.items e ≡ true
    go e (inl a) = cells-stay y.rows.rows.items z.rows.rows.items q.cells q.rooms p.added p.there e a
    go e (inr a) = q.there e a

pub logged-behind : (x y z : LoggedRows) → y.rows ≡ x.rows → y.log.items ≡ x.log.items → IsLogged y z → IsLogged x z
logged-behind x y z rows log p = logged-then x y z (logged-alike x y rows log) p

-- lives that change one after the other

pub lives-same : (x : LoggedRows) → LogsLives x x
unfolding logged-same
lives-same x = record { logged = logged-same x; lives = λ e a. absurd (none-among e a) }

pub lives-then : (x y z : LoggedRows) → LogsLives x y → LogsLives y z → LogsLives x z
unfolding logged-then
lives-then x y z p q = record { logged = logged-then x y z p.logged q.logged; lives = λ e a. go e (among-split e p.logged.added q.logged.added a) }
  where
    go : (e : Former) → Among e p.logged.added ⊎ Among e q.logged.added → is_life e ≡ true
    go e (inl a) = p.lives e a
    go e (inr a) = q.lives e a
