-- What a cell tells, and how a note changes this.
use Rattle.std.specs.Prelude.{◌≡◌, ◌<◌, ℕ, zero, suc, Bool, true, false, cond, ◌&&◌, nat_eq, nat_lt, nat_le, List, [], ◌∷◌, ◌++◌, Option, None, Some, is_some, length, map, take, drop}
use Rattle.slot_index.specs.Order.{number_of}
use Rattle.mir_meaning.specs.declared.writing.LaneDef.{LaneDef}
use Rattle.mir_meaning.specs.Paths.{Among, Use}
use Rattle.live_lanes.specs.declared.row.Cause.{Cause}
use Rattle.live_lanes.specs.declared.row.Cause.TheVariants as reasons
use Rattle.live_lanes.specs.declared.row.LaneRange.{LaneRange}
use Rattle.live_lanes.specs.declared.row.LaneUse.{LaneUse}
use Rattle.live_lanes.specs.declared.row.PieceEnd.{PieceEnd}
use Rattle.live_lanes.specs.declared.row.PieceEnd.TheVariants as ends
use Rattle.live_lanes.specs.Table.{Numbers, Seen, Begun, changed_at}
use Rattle.live_lanes.specs.Entered.{reading_of, rows_seen}
use Rattle.edit_laws.specs.LaneSteps.{LaneStep, StepsRise}
use Rattle.live_edits.specs.declared.cell_change.CellChange.{CellChange}
use Rattle.live_edits.specs.declared.cells.Note.{Note}
use Rattle.live_edits.specs.declared.cells.CellNotes.{CellNotes}
use Rattle.live_edits.specs.declared.renote.CellChanges.{CellChanges}
use Rattle.live_edits.specs.declared.renote.ReadingChange.{ReadingChange}
use Rattle.live_edits.specs.declared.renote.ReadingChange.TheVariants as reading_changes
use Rattle.instr_effects.specs.declared.lane_acts.LaneRead.{LaneRead}
use Rattle.instr_effects.specs.declared.lane_acts.LaneWrite.{LaneWrite}
use Rattle.std.specs.List.{insert, remove}
pub use Rattle.live_edits.specs.CellChanges.{piece_readings}
use Rattle.live_edits.specs.CellChanges.{seen_changed, with_readings, reading_added, begun_with_writing}
use Rattle.live_edits.specs.RemadeSteps.{noted_step}
use Rattle.live_edits.specs.Told.{begun_extent, begun_left, StaysOrShrinks}

-- a reading, or a writing of the instruction of an id
pub data Event : Type 0 where
  reads : LaneUse → Event
  writes : ℕ → Bool → Option ℕ → Event

-- what pieces tell, where the first has these readings and writings begin the others
abbrev pub pieces_told : List LaneUse → List Begun → List Event
pieces_told rs [] = map reads rs
pieces_told rs (s ∷ ss) = map reads rs ++ writes s.start s.early s.from ∷ pieces_told s.readings ss

-- what a cell tells
abbrev pub seen_told : Seen → List Event
seen_told v = pieces_told v.readings v.segments

abbrev pub use_told : ℕ → Use → List Event
use_told id u = map reads (reading_of id u)

abbrev pub def_told : ℕ → Option LaneDef → List Event
def_told id None = []
def_told id (Some w) = writes id w.early w.from ∷ []

-- what instructions do to a lane
abbrev pub all_told : List LaneStep → List Event
all_told [] = []
all_told (a ∷ xs) = use_told a.id a.used ++ (def_told a.id a.writing ++ all_told xs)

-- the instruction stands before the one of an id, or is that
abbrev pub under : Numbers → ℕ → ℕ → Bool
under slots id i = nat_lt (number_of slots i) (number_of slots id)

abbrev pub not_over : Numbers → ℕ → ℕ → Bool
not_over slots id i = nat_le (number_of slots i) (number_of slots id)

-- one test for readings and one for writings, each by its instruction
abbrev pub event_test : (ℕ → Bool) → (ℕ → Bool) → Event → Bool
event_test reading writing (reads r) = reading r.id
event_test reading writing (writes id early from) = writing id

-- before an instruction's entry, and before its exit
abbrev pub before_entry : Numbers → ℕ → Event → Bool
before_entry slots id = event_test (under slots id) (under slots id)

abbrev pub before_exit : Numbers → ℕ → Event → Bool
before_exit slots id = event_test (not_over slots id) (under slots id)

-- all pass the test, or none does
abbrev pub AllPass : {X : Type 0} → (X → Bool) → List X → Type 0
AllPass {X} test xs = (x : X) → Among x xs → test x ≡ true

abbrev pub NonePass : {X : Type 0} → (X → Bool) → List X → Type 0
NonePass {X} test xs = (x : X) → Among x xs → test x ≡ false

-- where those that pass stand before all others, they are so many
abbrev pub Cuts : {X : Type 0} → (X → Bool) → List X → ℕ → Type 0
Cuts {X} test xs n = (front back : List X) → xs ≡ front ++ back → AllPass test front → NonePass test back → n ≡ length front

abbrev pub CutsReadings : (ℕ → Bool) → List LaneUse → ℕ → Type 0
CutsReadings test rs n = Cuts (λ r. test r.id) rs n

abbrev pub CutsPieces : Numbers → ℕ → List Begun → ℕ → Type 0
CutsPieces slots id ss n = Cuts (λ s. under slots id s.start) ss n

-- the first reading, if it is of the instruction, and what stands behind it
abbrev pub first_read : ℕ → List LaneUse → Option LaneRead
first_read id [] = None
first_read id (r ∷ rs) = cond (nat_eq r.id id) (Some (record { into = r.into })) None

abbrev pub without_first : ℕ → List LaneUse → List LaneUse
without_first id [] = []
without_first id (r ∷ rs) = cond (nat_eq r.id id) rs (r ∷ rs)

-- the piece at a place begins with the instruction
abbrev pub is_begun_by : ℕ → List Begun → ℕ → Bool
is_begun_by id [] k = false
is_begun_by id (s ∷ ss) zero = nat_eq s.start id
is_begun_by id (s ∷ ss) (suc k) = is_begun_by id ss k

-- what a cell tells after its readings change
abbrev pub reading_changed : ReadingChange → Seen → Seen
reading_changed reading_changes.None v = v
reading_changed (reading_changes.Put index at r) v = reading_added index at r v
reading_changed (reading_changes.Other c) v = seen_changed c v

-- one or two changes, or none
abbrev pub changed_maybe : Option CellChange → Seen → Seen
changed_maybe None v = v
changed_maybe (Some c) v = seen_changed c v

abbrev pub all_changed : CellChanges → Seen → Seen
all_changed cs v = changed_maybe cs.second (changed_maybe cs.first v)

-- a writing becomes this one
abbrev pub rewritten : ℕ → Bool → Option ℕ → Seen → Seen
rewritten at early from v = record v { segments = changed_at at (begun_with_writing early from) v.segments }

-- a piece begins with a writing, with these readings, and the one before keeps those
abbrev pub piece_begun : ℕ → ℕ → Bool → Option ℕ → List LaneUse → List LaneUse → Seen → Seen
piece_begun at id early from before behind v =
    with_readings (record v { segments = insert v.segments at (record { start = id; early = early; from = from; cause = reasons.None; end = ends.Never; readings = behind }) }) at before

-- it takes those behind the instruction
pub record Begins (slots : Numbers) (at id : ℕ) (write : LaneWrite) (v w : Seen) : Type 0 where
  pub count : ℕ
  pub cut : CutsReadings (not_over slots id) (piece_readings v.readings v.segments at) count
  pub is : w ≡ piece_begun at id write.early write.from (take count (piece_readings v.readings v.segments at)) (drop count (piece_readings v.readings v.segments at)) v

-- a piece is joined to the one before
abbrev pub piece_joined : ℕ → Seen → Seen
piece_joined at v =
    let w = with_readings v at (piece_readings v.readings v.segments at ++ piece_readings v.readings v.segments (suc at)) in
    record w { segments = remove w.segments at }

abbrev pub NoReading : ℕ → List Event → Type 0
NoReading id es = (r : LaneUse) → Among (reads r) es → nat_eq r.id id ≡ false

abbrev pub NoWriting : ℕ → List Event → Type 0
NoWriting id es = (i : ℕ) (early : Bool) (from : Option ℕ) → Among (writes i early from) es → nat_eq i id ≡ false

-- the reading of an instruction becomes that of the note; all else stays
abbrev pub NotesUse : Numbers → ℕ → Use → List Event → List Event → Type 0
NotesUse slots id used old new =
    (front : List Event) (u : Use) (back : List Event) → old ≡ front ++ (use_told id u ++ back) → AllPass (before_entry slots id) front → NonePass (before_entry slots id) back → NoReading id back → new ≡ front ++ (use_told id used ++ back)

-- so does its writing
abbrev pub NotesDef : Numbers → ℕ → Option LaneDef → List Event → List Event → Type 0
NotesDef slots id writing old new =
    (front : List Event) (w : Option LaneDef) (back : List Event) → old ≡ front ++ (def_told id w ++ back) → AllPass (before_exit slots id) front → NonePass (before_exit slots id) back → NoWriting id back → new ≡ front ++ (def_told id writing ++ back)

-- the life of a piece that begins with a writing
pub record Lived : Type 0 where
  pub start : ℕ
  pub cause : Cause
  pub end : PieceEnd

abbrev pub lived : Begun → Lived
lived s = record { start = s.start; cause = s.cause; end = s.end }

-- the lives of the pieces that writings begin are these, by the instruction
abbrev pub Lives : Type 0
Lives = ℕ → Cause × PieceEnd

abbrev pub AllLive : Lives → List Lived → Type 0
AllLive lives [] = Unit {0}
AllLive lives (x ∷ xs) = (x.cause ≡ (lives x.start).0) × (x.end ≡ (lives x.start).1) × AllLive lives xs

-- the first piece and what phis read stay
pub record KeepsFirst (v w : Seen) : Type 0 where
  pub cause : w.cause ≡ v.cause
  pub end : w.end ≡ v.end
  pub last : w.is_read_last ≡ v.is_read_last

-- lives stay, and where a piece begins with the instruction that didn't before, it has none
abbrev pub KeepsLives : Numbers → ℕ → Seen → Seen → Type 0
KeepsLives slots id v w =
    (lives : Lives) (front : List Event) (d : Option LaneDef) (back : List Event) → seen_told v ≡ front ++ (def_told id d ++ back) → AllPass (before_exit slots id) front → NonePass (before_exit slots id) back → NoWriting id back
    → (d ≡ None → lives id ≡ (reasons.None, ends.Never)) → AllLive lives (map lived v.segments) → AllLive lives (map lived w.segments)

pub record NotesReading (slots : Numbers) (id : ℕ) (used : Use) (v w : Seen) : Type 0 where
  pub told : NotesUse slots id used (seen_told v) (seen_told w)
  pub first : KeepsFirst v w
  pub lives : map lived w.segments ≡ map lived v.segments
  pub extents : map begun_extent w.segments ≡ map begun_extent v.segments

pub record NotesWriting (slots : Numbers) (id : ℕ) (writing : Option LaneDef) (v w : Seen) : Type 0 where
  pub told : NotesDef slots id writing (seen_told v) (seen_told w)
  pub first : KeepsFirst v w
  pub lives : KeepsLives slots id v w
  pub untold : (told : Option ℕ → Bool) → (is_some writing ≡ true → told (Some id) ≡ true) → StaysOrShrinks (begun_left told v) (begun_left told w)

-- in a cell that tells what instructions do, one of them does what its note says
pub record NotesSeen (slots : Numbers) (n : Note) (v w : Seen) : Type 0 where
  pub told : (front : List LaneStep) (a : LaneStep) (back : List LaneStep) → StepsRise slots (front ++ a ∷ back) → a.id ≡ n.id → seen_told v ≡ all_told (front ++ a ∷ back) → seen_told w ≡ all_told (front ++ noted_step n ∷ back)
  pub first : KeepsFirst v w
  pub lives : (lives : Lives) (front : List LaneStep) (a : LaneStep) (back : List LaneStep) → StepsRise slots (front ++ a ∷ back) → a.id ≡ n.id → seen_told v ≡ all_told (front ++ a ∷ back) → (a.writing ≡ None → lives n.id ≡ (reasons.None, ends.Never)) → AllLive lives (map lived v.segments) → AllLive lives (map lived w.segments)
  pub untold : (told : Option ℕ → Bool) → (is_some n.act.write ≡ true → told (Some n.id) ≡ true) → StaysOrShrinks (begun_left told v) (begun_left told w)

-- so it is with the cell of a lane in a block, and all others stay
pub record ChangesOne (old new : List LaneRange) (lane block : ℕ) (to : Seen → Seen → Type 0) : Type 0 where
  pub own : to (rows_seen old lane block) (rows_seen new lane block)
  pub others : (l b : ℕ) → (nat_eq lane l && nat_eq block b) ≡ false → rows_seen new l b ≡ rows_seen old l b
  pub lanes : length new ≡ length old

-- one note after the other
abbrev pub NotesAll : Numbers → List Note → Seen → Seen → Type 0
NotesAll slots [] v w = w ≡ v
NotesAll slots (n ∷ ns) v w = (u : Seen) × NotesSeen slots n v u × NotesAll slots ns u w

-- so it is with the cell of these notes, if its lane has rows
pub record NotesCell (slots : Numbers) (old new : List LaneRange) (c : CellNotes) : Type 0 where
  pub own : c.lane < length old → NotesAll slots c.notes.items (rows_seen old c.lane c.block) (rows_seen new c.lane c.block)
  pub others : (l b : ℕ) → (nat_eq c.lane l && nat_eq c.block b) ≡ false → rows_seen new l b ≡ rows_seen old l b
  pub lanes : length new ≡ length old
