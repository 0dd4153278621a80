-- Cells that are made anew from what they tell and from notes of the touched instructions.
use Rattle.std.specs.Prelude.{◌≡◌, ◌≤◌, ◌<◌, ℕ, Bool, false, List, Option, Some, length, slice_get}
use Rattle.mir_meaning.specs.Paths.{Among, Step, Code, steps_of, has}
use Rattle.live_lanes.specs.declared.compute.flow.BlockFlow.{BlockFlow}
use Rattle.live_lanes.specs.declared.row.LaneRange.{LaneRange}
use Rattle.live_lanes.specs.Table.{Numbers}
use Rattle.live_lanes.specs.Entered.{rows_seen, IsNumbered, IsTableOf}
use Rattle.live_lanes.specs.Ordered.{times}
use Rattle.edit_laws.specs.LaneSteps.{lane_step}
use Rattle.edit_laws.specs.Reasons.{Touched, IsEditOf}
use Rattle.edit_laws.specs.Rebuilt.{IsRebuilt}
pub use Rattle.live_edits.specs.RemadeSteps.{use_of_read, def_of_write, noted_ids, noted_step}
use Rattle.live_edits.specs.declared.cells.Note.{Note}
use Rattle.live_edits.specs.declared.cells.CellNotes.{CellNotes}
use Rattle.live_edits.specs.Told.{AreWritingsTold, KeepsUntold}

-- the notes are of exactly the instructions of the block that are touched at the lane, each once, and say what these do now
pub record AreNotesOf (touched : Touched) (code : Code) (l b : ℕ) (notes : List Note) : Type 0 where
  pub told : (id : ℕ) → touched l b id ≡ has id (noted_ids notes)
  pub single : (id : ℕ) → times id (noted_ids notes) ≤ 1
  pub does : (n : Note) → Among n notes → (s : Step) × Among s (steps_of code b) × (lane_step l s ≡ noted_step n)

-- The notes of all cells: those of one lane in one block stand in one list, and each lane of the touched instructions has rows.
pub record AreAllNotes (touched : Touched) (code : Code) (rows : List LaneRange) (all : List CellNotes) : Type 0 where
  pub each : (c : CellNotes) → Among c all → AreNotesOf touched code c.lane c.block c.notes.items
  pub others : (l b : ℕ) → ((c : CellNotes) → Among c all → c.lane ≡ l → c.block ≡ b → ⊥) → (id : ℕ) → touched l b id ≡ false
  pub apart : (i j : ℕ) (c d : CellNotes) → slice_get all i ≡ Some c → slice_get all j ≡ Some d → c.lane ≡ d.lane → c.block ≡ d.block → i ≡ j
  pub lanes : (c : CellNotes) → Among c all → c.lane < length rows

-- All cells with notes are made anew, and all others stay. A lane is rebuilt from what it was in a table, where the notes tell all that
-- is touched there: other lanes may be elsewhere than the table says.
pub record RemakesAll (slots : Numbers) (old new : List LaneRange) (all : List CellNotes) : Type 0 where
  pub rebuilt : (touched noted : Touched) (before code : Code) (was : Numbers) (flow : List BlockFlow) (x : List LaneRange) → IsTableOf before was flow x → IsEditOf touched before code → IsNumbered code slots
      → AreAllNotes noted code old all → (l : ℕ) → ((b id : ℕ) → touched l b id ≡ noted l b id) → ((b : ℕ) → rows_seen old l b ≡ rows_seen x l b) → (b : ℕ) → IsRebuilt before code l b (rows_seen x l b) (rows_seen new l b)
  pub kept : (l b : ℕ) → ((c : CellNotes) → Among c all → c.lane ≡ l → c.block ≡ b → ⊥) → rows_seen new l b ≡ rows_seen old l b
  pub untold : (told : ℕ → ℕ → Option ℕ → Bool) → AreWritingsTold told all → (l b : ℕ) → KeepsUntold (told l b) (rows_seen old l b) (rows_seen new l b)
