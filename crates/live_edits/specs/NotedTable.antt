-- Lists of notes that are found by lanes and blocks, and what acts tell.
use Rattle.std.specs.Prelude.{◌≡◌, ◌≤◌, ◌<◌, ◌+◌, ◌*◌, ◌⊎◌, ℕ, cond, List, [], ◌∷◌, ◌++◌, Some, slice_get}
use Rattle.std.specs.Ordering.{nat_cmp}
use Rattle.std.specs.BTreeMap.{get}
use Rattle.mir_meaning.specs.Paths.{Among, Step, has}
use Rattle.instr_effects.specs.declared.lane_acts.LaneAct.{LaneAct}
use Rattle.instr_effects.specs.LaneActs.{act_on, lane_act}
use Rattle.live_lanes.specs.Ordered.{times}
use Rattle.live_edits.specs.declared.cells.Note.{Note}
use Rattle.live_edits.specs.declared.cells.CellNotes.{CellNotes}
use Rattle.live_edits.specs.declared.notes.NoteTable.{NoteTable}
use Rattle.live_edits.specs.declared.notes.TouchedInstr.{TouchedInstr}
use Rattle.live_edits.specs.Remade.{noted_ids}

-- the key of a lane in a block; blocks are below 2 ^ 32
abbrev pub cell_key : ℕ → ℕ → ℕ
cell_key lane block = lane * 4294967296 + block

-- the notes with one more, unless they have one of its instruction
abbrev pub with_note : Note → List Note → List Note
with_note n ns = cond (has n.id (noted_ids ns)) ns (ns ++ n ∷ [])

-- the list at a place is of the lane in the block
abbrev pub IsListAt : List CellNotes → ℕ → ℕ → ℕ → Type 0
IsListAt all k l b = (c : CellNotes) × (slice_get all k ≡ Some c) × (c.lane ≡ l) × (c.block ≡ b)

-- the note stands in a list of the lane in the block
abbrev pub IsNoted : List CellNotes → ℕ → ℕ → Note → Type 0
IsNoted all l b n = (k : ℕ) × (c : CellNotes) × (slice_get all k ≡ Some c) × (c.lane ≡ l) × (c.block ≡ b) × Among n c.notes.items

-- an instruction has a note there
abbrev pub HasNote : List CellNotes → ℕ → ℕ → ℕ → Type 0
HasNote all l b id = (n : Note) × IsNoted all l b n × (n.id ≡ id)

-- no list is empty
abbrev pub AreFilled : List CellNotes → Type 0
AreFilled all = (k : ℕ) (c : CellNotes) → slice_get all k ≡ Some c → (n : Note) × Among n c.notes.items

-- all lists but that at a place stood there before
abbrev pub AreOld : List CellNotes → List CellNotes → ℕ → Type 0
AreOld old new place = (k : ℕ) (c : CellNotes) → slice_get new k ≡ Some c → (slice_get old k ≡ Some c) ⊎ (k ≡ place)

-- all notes stay, and those that come are as is told
pub record AddsNotes (old new : List CellNotes) (Told : ℕ → ℕ → Note → Type 0) : Type 0 where
  pub kept : (l b : ℕ) (n : Note) → IsNoted old l b n → IsNoted new l b n
  pub back : (l b : ℕ) (n : Note) → IsNoted new l b n → IsNoted old l b n ⊎ Told l b n

-- each list is found by its key, and has one note of an instruction at most
pub record IsNoteTable (x : NoteTable) : Type 0 where
  pub leads : (k : ℕ) (c : CellNotes) → slice_get x.all.items k ≡ Some c → get nat_cmp x.places (cell_key c.lane c.block) ≡ Some k
  pub backs : (key k : ℕ) → get nat_cmp x.places key ≡ Some k → (c : CellNotes) × (slice_get x.all.items k ≡ Some c) × (cell_key c.lane c.block ≡ key) × (c.block < 4294967296)
  pub single : (k : ℕ) (c : CellNotes) → slice_get x.all.items k ≡ Some c → (id : ℕ) → times id (noted_ids c.notes.items) ≤ 1

-- the notes of a touched instruction with these acts
abbrev pub IsNoteOf : TouchedInstr → List LaneAct → ℕ → ℕ → Note → Type 0
IsNoteOf x acts l b n = (a : LaneAct) × Among a acts × (l ≡ a.lane) × (b ≡ x.block) × (n ≡ record { id = x.id; act = a })

-- the acts tell what an instruction does to each lane
abbrev pub AreActs : Step → List LaneAct → Type 0
AreActs s acts = (l : ℕ) → act_on acts l ≡ lane_act s.reads s.writes l
