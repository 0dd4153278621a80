-- From notes and logs of a run to the extents of its lanes.
use Rattle.std.proofs.Common.{◌≡◌, ◌∙◌, ⊎_elim, ◌+◌, ℕ, suc, Bool, true, false, ◌&&◌, length, List, [], ◌∷◌, ◌++◌, Option, None, Some, map, refl, sym, ap, subst, arith, eq-eqb}
use Rattle.std.specs.Prelude.{slice_get, is_some, option_map}
use Rattle.std.specs.List.{cons_option}
use Rattle.std.specs.List.{filter_map}
use Rattle.meaning.specs.Sameness.{same_option}
use Rattle.mir_meaning.specs.Paths.{Among}
use Rattle.mir_meaning.specs.Registers.{numbers}
use Rattle.live_lanes.specs.declared.ask.extent.ChangedPiece.{ChangedPiece}
use Rattle.live_lanes.specs.declared.ask.extent.Extent.{Extent}
use Rattle.live_lanes.specs.declared.row.Cell.{Cell}
use Rattle.live_lanes.specs.declared.row.DefPiece.{DefPiece}
use Rattle.live_lanes.specs.declared.row.LaneRange.{LaneRange}
use Rattle.live_lanes.specs.declared.table.Table.{Table}
use Rattle.live_lanes.specs.Entered.{rows_seen, cells_of}
use Rattle.live_lanes.specs.Extents.{block_extent, segment_extent, extent_in, cell_extents, some_extents, extents_in}
use Rattle.live_lanes.specs.Table.{begun, seen, unseen, seen_in, find_cell}
use Rattle.live_edits.specs.declared.cells.CellNotes.{CellNotes}
use Rattle.live_edits.specs.declared.edit_run.EditRun.{EditRun}
use Rattle.live_edits.specs.declared.log.Former.{Former}
use Rattle.instr_effects.specs.declared.lane_acts.LaneWrite.{LaneWrite}
use Rattle.live_edits.specs.Aside.{TakesRows, is_aside}
use Rattle.live_edits.specs.Runs.{table_of}
use Rattle.live_edits.specs.Told.{is_piece, is_told, untold, TellsPieces, begun_extent, listed, seen_extents, HasWritten, HasNamed, AreWritingsTold, AreNamedTold, IsNotedAndLogged, KeepsUntold}
use Rattle.live_edits.specs.ToldRuns.{KeepsOtherRows, IsToldBy}
use Rattle.live_edits.proofs.AskMembers.{among-any}
use Rattle.live_edits.proofs.UntoldLogs.{pieces-kept}

-- lanes whose rows weren't taken away
pub others-kept : (old cleared : EditRun) (v : ℕ) → TakesRows old cleared v → old.aside.items ≡ [] → KeepsOtherRows old cleared.rows.rows.rows.items (Some v)
others-kept old cleared v takes none l b other = takes.left l b (go (is_aside cleared.aside.items l) refl)
  where
    first : is_aside old.aside.items l ≡ true → ⊥
    first e = let z : true ≡ false = sym e ∙ ap (λ xs. is_aside xs l) none in cc

    go : (u : Bool) → is_aside cleared.aside.items l ≡ u → u ≡ false
    go true e = absurd (⊎_elim first other (takes.only l e))
    go false e = refl

-- the rows of before tell the same
pub noted-from : (old mid new : List LaneRange) (log : List Former) (all : List CellNotes) → ((l b : ℕ) → rows_seen mid l b ≡ rows_seen old l b) → IsNotedAndLogged mid new log all → IsNotedAndLogged old new log all
noted-from old mid new log all same d = record {
  made = d.made;
  shapes = d.shapes;
  lives = d.lives;
  shapes_in = d.shapes_in;
  lives_in = d.lives_in;
  are_lives = d.are_lives;
  shapes_back = λ l b. d.shapes_back l b ∙ same l b;
  lives_back = d.lives_back;
  remade = λ told h l b. subst (λ v. KeepsUntold (told l b) v (rows_seen d.made l b)) (same l b) (d.remade told h l b);
}

-- what is among some pieces, they tell

one-piece : (p : ChangedPiece) → is_piece p.lane p.block p.start p ≡ true
one-piece p = (λ i. eq-eqb p.lane p.lane refl i && (eq-eqb p.block p.block refl i && same-start p.start i))
  where
    same-start : (o : Option ℕ) → same_option o o ≡ true
    same-start None = refl
    same-start (Some n) = eq-eqb n n refl

among-told : (p : ChangedPiece) (pieces : List ChangedPiece) → Among p pieces → is_told pieces p.lane p.block p.start ≡ true
among-told p pieces m = among-any (is_piece p.lane p.block p.start) p pieces m (one-piece p)

written-told : (all : List CellNotes) (pieces : List ChangedPiece) → HasWritten all pieces → AreWritingsTold (is_told pieces) all
written-told all pieces h c a n m e = among-told own pieces (h c a n m own (go n.act.write e))
  where
    own : ChangedPiece
    own = record { lane = c.lane; block = c.block; start = Some n.id }

    go : (o : Option LaneWrite) → is_some o ≡ true → option_map (λ w. own) o ≡ Some own
    go None f = absurd (cc)
    go (Some w) f = refl

named-told : (rows : List LaneRange) (log : List Former) (pieces : List ChangedPiece) → HasNamed rows log pieces → AreNamedTold (is_told pieces) rows log
named-told rows log pieces h e m p i = among-told p pieces (h e m p i)

-- extents of a lane in a block, by what its cell tells

later-extents : (c : Cell) (k : ℕ) (ss : List DefPiece) → ((i : ℕ) → slice_get c.segments.items (k + i) ≡ slice_get ss i) → filter_map (extent_in (Some c)) (numbers (suc k) (length ss)) ≡ map begun_extent (map begun ss)
later-extents c k [] h = refl
later-extents c k (s ∷ ss) h =
    let place : k + 0 ≡ k = omega arith in
    let own : slice_get c.segments.items k ≡ Some s = sym (ap (slice_get c.segments.items) place) ∙ h 0 in
    (λ i. cons_option (option_map segment_extent (own i)) (later-extents c (suc k) ss (λ i. let e : suc k + i ≡ k + suc i = omega arith in ap (slice_get c.segments.items) e ∙ h (suc i)) i))

cell-seen : (c : Cell) → cell_extents c ≡ seen_extents (seen (Some c))
cell-seen c =
    let more : length c.segments.items + 1 ≡ suc (length c.segments.items) = omega arith in
    ap (λ n. filter_map (extent_in (Some c)) (numbers 0 n)) more
    ∙ (first (block_extent c.first.end) (filter_map (extent_in (Some c)) (numbers 1 (length c.segments.items)))
    ∙ ap (λ xs. listed (block_extent c.first.end) ++ xs) (later-extents c 0 c.segments.items (λ i. let e : 0 + i ≡ i = omega arith in ap (slice_get c.segments.items) e)))
  where
    first : (o : Option Extent) (xs : List Extent) → cons_option o xs ≡ listed o ++ xs
    first None xs = refl
    first (Some e) xs = refl

some-seen : (o : Option Cell) → some_extents o ≡ seen_extents (seen o)
some-seen None = refl
some-seen (Some c) = cell-seen c

pub extents-seen : (x : Table) (l b : ℕ) → extents_in x l b ≡ seen_extents (rows_seen x.rows.rows.items l b)
extents-seen x l b = some-seen (find_cell b (cells_of x.rows.rows.items l)) ∙ ap seen_extents (go (slice_get x.rows.rows.items l))
  where
    go : (o : Option LaneRange) → seen (find_cell b (elim o [ None ↦ [] | Some r ↦ r.cells.items ])) ≡ elim o [ None ↦ unseen | Some r ↦ seen_in r.cells.items b ]
    go None = refl
    go (Some r) = refl

pub extents-same : (x y : Table) → ((l b : ℕ) → rows_seen y.rows.rows.items l b ≡ rows_seen x.rows.rows.items l b) → (l b : ℕ) → extents_in y l b ≡ extents_in x l b
extents-same x y same l b = extents-seen y l b ∙ (ap seen_extents (same l b) ∙ sym (extents-seen x l b))

-- the pieces of notes that write, and those that a log names, are all that changed
pub pieces-told : (old new : EditRun) (v : Option ℕ) (all : List CellNotes) (pieces : List ChangedPiece) → IsToldBy old new v all → HasWritten all pieces → HasNamed new.rows.rows.rows.items new.rows.log.items pieces → TellsPieces (table_of old) (table_of new) v pieces
pieces-told old new v all pieces d written named l b other =
    let told = is_told pieces in
    ap (untold (told l b)) (extents-seen (table_of new) l b)
    ∙ (pieces-kept told new.rows.rows.rows.items d.cleared new.rows.log.items all d.changed (written-told all pieces written) (named-told new.rows.rows.rows.items new.rows.log.items pieces named) l b
    ∙ (ap (λ s. untold (told l b) (seen_extents s)) (d.kept l b other) ∙ ap (untold (told l b)) (sym (extents-seen (table_of old) l b))))
