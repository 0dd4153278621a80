-- Pieces that edits tell, and what stays beside them.
use Rattle.std.specs.Prelude.{◌≡◌, ◌⊎◌, ◌<◌, ◌&&◌, ℕ, zero, suc, Bool, true, not, nat_eq, List, ◌++◌, [], ◌∷◌, Option, None, Some, length, map, is_some, option_map, slice_get}
use Rattle.std.specs.List.{filter, list_any}
use Rattle.meaning.specs.Sameness.{same_option}
use Rattle.mir_meaning.specs.Paths.{Among}
use Rattle.instr_effects.specs.declared.lanes.LaneTable.{LaneTable}
use Rattle.instr_effects.specs.declared.owner.Owner.TheVariants as owners
use Rattle.instr_effects.specs.Numbered.{number_in}
use Rattle.live_lanes.specs.declared.ask.extent.ChangedPiece.{ChangedPiece}
use Rattle.live_lanes.specs.declared.ask.extent.Extent.{Extent}
use Rattle.live_lanes.specs.declared.table.Table.{Table}
use Rattle.live_lanes.specs.Extents.{block_extent, extents_in}
use Rattle.live_lanes.specs.Table.{Seen, Begun}
use Rattle.live_lanes.specs.declared.row.LaneRange.{LaneRange}
use Rattle.live_lanes.specs.Entered.{rows_seen}
use Rattle.live_edits.specs.declared.cell_change.CellChange.{CellChange}
use Rattle.live_edits.specs.declared.cell_change.CellChange.TheVariants as changes
use Rattle.live_edits.specs.declared.cells.CellNotes.{CellNotes}
use Rattle.live_edits.specs.declared.cells.Note.{Note}
use Rattle.live_edits.specs.declared.log.Former.{Former}
use Rattle.live_edits.specs.declared.log.Former.TheVariants as formers
use Rattle.live_edits.specs.Logged.{all_taken_back, is_life}

-- a piece is the one of a lane in a block that begins so
abbrev pub is_piece : ℕ → ℕ → Option ℕ → ChangedPiece → Bool
is_piece l b start p = nat_eq p.lane l && (nat_eq p.block b && same_option p.start start)

-- it is among some pieces
abbrev pub is_told : List ChangedPiece → ℕ → ℕ → Option ℕ → Bool
is_told pieces l b start = list_any (is_piece l b start) pieces

-- extents of a lane in a block, but those that begin as pieces do that a test tells
abbrev pub untold : (Option ℕ → Bool) → List Extent → List Extent
untold told es = filter (λ e. not (told e.start)) es

-- the lane is one of a range, if there is one
abbrev pub IsOfRange : LaneTable → Option ℕ → ℕ → Type 0
IsOfRange lanes None l = ⊥
IsOfRange lanes (Some v) l = (k : ℕ) × (number_in lanes (owners.Range v k) ≡ Some l)

-- Of each lane but those of a range, the extents that begin otherwise than these pieces are as before, in their order.
abbrev pub TellsPieces : Table → Table → Option ℕ → List ChangedPiece → Type 0
TellsPieces old new v pieces =
    (l b : ℕ) → (IsOfRange old.lanes v l → ⊥) → untold (is_told pieces l b) (extents_in new l b) ≡ untold (is_told pieces l b) (extents_in old l b)

-- what cells tell of extents

abbrev pub begun_extent : Begun → Extent
begun_extent s = record { start = Some s.start; early = s.early; end = s.end }

abbrev pub listed : Option Extent → List Extent
listed None = []
listed (Some e) = e ∷ []

-- the extents of a lane in a block
abbrev pub seen_extents : Seen → List Extent
seen_extents v = listed (block_extent v.end) ++ map begun_extent v.segments

-- those of pieces that writings begin, and that aren't told
abbrev pub begun_left : (Option ℕ → Bool) → Seen → List Extent
begun_left told v = untold told (map begun_extent v.segments)

-- a list stays, or becomes shorter
abbrev pub StaysOrShrinks : List Extent → List Extent → Type 0
StaysOrShrinks xs ys = (ys ≡ xs) ⊎ (length ys < length xs)

-- of the pieces of a cell that aren't told, some that writings begin may go, and all else stays
pub record KeepsUntold (told : Option ℕ → Bool) (v w : Seen) : Type 0 where
  pub first : w.end ≡ v.end
  pub begun : StaysOrShrinks (begun_left told v) (begun_left told w)

-- notes and logs that tell pieces

-- the pieces that instructions begin by notes that write are told
abbrev pub AreWritingsTold : (ℕ → ℕ → Option ℕ → Bool) → List CellNotes → Type 0
AreWritingsTold told all = (c : CellNotes) → Among c all → (n : Note) → Among n c.notes.items → is_some n.act.write ≡ true → told c.lane c.block (Some n.id) ≡ true

-- the piece of a lane in a block that an instruction begins by its note, if it writes
abbrev pub piece_written : ℕ → ℕ → Note → Option ChangedPiece
piece_written lane block n = option_map (λ w. record { lane = lane; block = block; start = Some n.id }) n.act.write

-- a list has the pieces of the notes of a cell that write, and those of all notes
abbrev pub HasWrittenIn : ℕ → ℕ → List Note → List ChangedPiece → Type 0
HasWrittenIn lane block notes pieces = (n : Note) → Among n notes → (p : ChangedPiece) → piece_written lane block n ≡ Some p → Among p pieces

abbrev pub HasWritten : List CellNotes → List ChangedPiece → Type 0
HasWritten all pieces = (c : CellNotes) → Among c all → HasWrittenIn c.lane c.block c.notes.items pieces

-- what begins the piece of a number, if there is that piece
abbrev pub start_at : Seen → ℕ → Option (Option ℕ)
start_at v zero = Some None
start_at v (suc k) = option_map (λ s. Some s.start) (slice_get v.segments k)

-- the piece that comes back where a change is taken back
abbrev pub piece_back : ℕ → ℕ → CellChange → Option ChangedPiece
piece_back l b (changes.Begin at piece count) = Some (record { lane = l; block = b; start = Some piece.start })
piece_back l b (changes.Readings index readings) = None
piece_back l b (changes.SetReading index at into) = None
piece_back l b (changes.Writing at early from) = None
piece_back l b (changes.Join at) = None

-- the piece whose life was logged, as it begins in these rows, or which went
abbrev pub piece_named : List LaneRange → Former → Option ChangedPiece
piece_named rows (formers.Life spot cause end) = option_map (λ start. record { lane = spot.lane; block = spot.block; start = start }) (start_at (rows_seen rows spot.lane spot.block) spot.index)
piece_named rows (formers.Shape lane block change) = piece_back lane block change
piece_named rows (formers.Read spot at) = None

-- a list has those of a log
abbrev pub HasNamed : List LaneRange → List Former → List ChangedPiece → Type 0
HasNamed rows log pieces = (e : Former) → Among e log → (p : ChangedPiece) → piece_named rows e ≡ Some p → Among p pieces

-- a list has all of another, and one more piece, if there is one
pub record AddsPiece (old new : List ChangedPiece) (piece : Option ChangedPiece) : Type 0 where
  pub kept : (p : ChangedPiece) → Among p old → Among p new
  pub has : (p : ChangedPiece) → piece ≡ Some p → Among p new

-- they are told
abbrev pub AreNamedTold : (ℕ → ℕ → Option ℕ → Bool) → List LaneRange → List Former → Type 0
AreNamedTold told rows log = (e : Former) → Among e log → (p : ChangedPiece) → piece_named rows e ≡ Some p → told p.lane p.block p.start ≡ true

-- Rows whose cells were made anew by notes, and in which lives changed then; both is in the log.
pub record IsNotedAndLogged (old new : List LaneRange) (log : List Former) (all : List CellNotes) : Type 0 where
  pub made : List LaneRange
  pub shapes : List Former
  pub lives : List Former
  pub shapes_in : (e : Former) → Among e shapes → Among e log
  pub lives_in : (e : Former) → Among e lives → Among e log
  pub are_lives : (e : Former) → Among e lives → is_life e ≡ true
  pub shapes_back : (l b : ℕ) → all_taken_back shapes (rows_seen made) l b ≡ rows_seen old l b
  pub lives_back : (l b : ℕ) → all_taken_back lives (rows_seen new) l b ≡ rows_seen made l b
  pub remade : (told : ℕ → ℕ → Option ℕ → Bool) → AreWritingsTold told all → (l b : ℕ) → KeepsUntold (told l b) (rows_seen old l b) (rows_seen made l b)
