-- A run of edits, of which notes and a log tell pieces.
use Rattle.std.specs.Prelude.{◌≡◌, ℕ, List, Option}
use Rattle.live_lanes.specs.declared.row.LaneRange.{LaneRange}
use Rattle.live_lanes.specs.Entered.{rows_seen}
use Rattle.live_edits.specs.declared.cells.CellNotes.{CellNotes}
use Rattle.live_edits.specs.declared.edit_run.EditRun.{EditRun}
use Rattle.live_edits.specs.Told.{IsOfRange, IsNotedAndLogged}

-- the rows of all lanes but those of a range stay
abbrev pub KeepsOtherRows : EditRun → List LaneRange → Option ℕ → Type 0
KeepsOtherRows old rows v = (l b : ℕ) → (IsOfRange old.lanes v l → ⊥) → rows_seen rows l b ≡ rows_seen old.rows.rows.rows.items l b

-- Rows of a range may have been taken away, and then cells were made anew by notes, and lives changed; these are in the log.
pub record IsToldBy (old new : EditRun) (v : Option ℕ) (all : List CellNotes) : Type 0 where
  pub cleared : List LaneRange
  pub kept : KeepsOtherRows old cleared v
  pub changed : IsNotedAndLogged cleared new.rows.rows.rows.items new.rows.log.items all
