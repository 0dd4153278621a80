-- Which instructions name a range, by the table, and where instructions are found.
use Rattle.std.specs.Prelude.{◌≡◌, ℕ, zero, suc, ◌+◌, ◌-◌, ◌*◌, length, Bool, false, ◌||◌, nat_eq, nat_lt, List, map, Option, None, Some, find, slice_get, slice_index}
use Rattle.std.specs.Ordering.{nat_cmp}
use Rattle.std.specs.List.{list_any}
use Rattle.std.specs.List.Sorted.{IsStrictlySortedBy}
use Rattle.slot_index.specs.Order.{number_of}
use Rattle.mir_func.specs.declared.func.Block.{Block}
use Rattle.mir_func.specs.declared.func.Instr.{Instr}
use Rattle.instr_effects.specs.declared.row.LaneSpan.{LaneSpan}
use Rattle.live_lanes.specs.declared.row.LaneUse.{LaneUse}
use Rattle.live_lanes.specs.declared.row.DefPiece.{DefPiece}
use Rattle.live_lanes.specs.declared.row.Cell.{Cell}
use Rattle.live_lanes.specs.declared.row.LaneRange.{LaneRange}
use Rattle.live_lanes.specs.declared.table.Table.{Table}
use Rattle.live_lanes.specs.declared.ask.touch.TouchList.{TouchList}
use Rattle.live_lanes.specs.Table.{Begun, Numbers, Seen, entry_rank, piece_at, readings_in}
use Rattle.live_lanes.specs.Entered.{causes, cells_of, rows_seen}
use Rattle.live_lanes.specs.Graph.{is_live}
use Rattle.live_lanes.specs.Lasting.{reading_counts, shapes}
use Rattle.live_lanes.specs.Looks.{exit_at}
use Rattle.live_lanes.specs.Held.{AreRanked}
use Rattle.live_lanes.specs.Ordered.{AreHomes, AreRising}
use Rattle.mir_meaning.specs.Paths.{has}

-- the instruction is one of those that read the lane in a piece
abbrev pub reads_in : ℕ → List LaneUse → Bool
reads_in id rs = list_any (λ r. nat_eq r.id id) rs

-- the instruction begins the piece, or reads the lane in it
abbrev pub names_segment : ℕ → DefPiece → Bool
names_segment id s = nat_eq s.start id || reads_in id s.piece.readings.items

-- the instruction reads or writes the lane in the cell's block
abbrev pub names_cell : ℕ → Cell → Bool
names_cell id c = reads_in id c.first.readings.items || list_any (names_segment id) c.segments.items

-- the instruction reads or writes the lane
abbrev pub names_lane : ℕ → List LaneRange → ℕ → Bool
names_lane id rows l = list_any (names_cell id) (cells_of rows l)

-- one of so many lanes, whose numbers stand in a row, passes the test
abbrev pub some_below : (ℕ → Bool) → ℕ → ℕ → Bool
some_below test first zero = false
some_below test first (suc n) = test (first + n) || some_below test first n

abbrev pub some_of : (ℕ → Bool) → Option LaneSpan → Bool
some_of test None = false
some_of test (Some own) = some_below test own.first own.count

-- a lane of the range does
abbrev pub some_lane : Table → ℕ → (ℕ → Bool) → Bool
some_lane x v test = some_of test (slice_get x.lanes.ranges.items v)

-- the instruction reads or writes a lane of the range
abbrev pub names_range : Table → ℕ → ℕ → Bool
names_range x v id = some_lane x v (names_lane id x.rows.rows.items)

-- some instruction reads or writes the lane in the cell
abbrev pub is_touched : Cell → Bool
is_touched c = nat_lt 0 (length c.first.readings.items) || nat_lt 0 (length c.segments.items)

-- some instruction reads or writes the lane
abbrev pub touches_lane : List LaneRange → ℕ → Bool
touches_lane rows l = list_any is_touched (cells_of rows l)

-- the piece of these that the instruction begins
abbrev pub begun_by : ℕ → List Begun → Option Begun
begun_by id ss = find (λ s. nat_eq s.start id) ss

-- the piece of the lane of that number, if there is one, that the instruction begins
abbrev pub begun_at : Table → Option ℕ → ℕ → Option Begun
begun_at x None id = None
begun_at x (Some l) id = begun_by id (rows_seen x.rows.rows.items l (slice_index x.order.block_of.items id)).segments

-- the writing that begins the piece is early
abbrev pub is_early : Option Begun → Bool
is_early None = false
is_early (Some s) = s.early

abbrev pub reading_ids : List LaneUse → List ℕ
reading_ids rs = map (λ r. r.id) rs

-- the numbers of the instructions rise along the readings of each piece
abbrev pub ReadsInOrder : Table → Type 0
ReadsInOrder x = (l b n : ℕ) → AreRising x.order.slots 0 (reading_ids (readings_in (rows_seen x.rows.rows.items l b) n))

abbrev pub is_counted : Table → ℕ → Option LaneUse → Bool
is_counted x b None = false
is_counted x b (Some r) = reading_counts x.order.slots (causes x.rows.rows.items) (shapes x.rows.rows.items) b r

-- the instruction reads the lane in the piece in which its entry lies, and this counts
abbrev pub reads_seen : Table → Seen → ℕ → ℕ → Bool
reads_seen x v b id = is_counted x b (find (λ r. nat_eq r.id id) (readings_in v (piece_at x.order.slots (entry_rank x.order.slots id) v.segments)))

-- the same of the lane of that number, if there is one
abbrev pub reads_lane : Table → Option ℕ → ℕ → Bool
reads_lane x None id = false
reads_lane x (Some l) id = reads_seen x (rows_seen x.rows.rows.items l (slice_index x.order.block_of.items id)) (slice_index x.order.block_of.items id) id

-- a lane of the range is live behind the last instruction of the block at the position, or at its start where there is none
abbrev pub leaves_last : Table → ℕ → ℕ → Option Instr → Bool
leaves_last x v p None = some_lane x v (λ l. is_live (causes x.rows.rows.items l p 0))
leaves_last x v p (Some i) = some_lane x v (λ l. exit_at x (Some l) i.id)

abbrev pub leaves_block : Table → ℕ → ℕ → Option Block → Bool
leaves_block x v p None = false
leaves_block x v p (Some b) = leaves_last x v p (slice_get b.instrs (length b.instrs - 1))

-- a number of an instruction, which rises along the layout; no two have the same
abbrev pub layout_key : Numbers → ℕ → ℕ
layout_key slots id = number_of slots id * 4294967296 + id

-- the instructions that read or write lanes of a range, in layout order, each once
pub record AreTouched (x : Table) (v : ℕ) (ids : List ℕ) : Type 0 where
  pub order : IsStrictlySortedBy nat_cmp (map (layout_key x.order.slots) ids)
  pub named : (id : ℕ) → has id ids ≡ names_range x v id

-- none stands behind another that it should stand before, unless the mark warns of that
abbrev pub InLine : Numbers → TouchList → Type 0
InLine slots f = f.is_mixed ≡ false → IsStrictlySortedBy nat_cmp (map (layout_key slots) f.ids.items)

-- the instructions that pass the test are found besides the old ones
pub record Meets (slots : Numbers) (old new : TouchList) (test : ℕ → Bool) : Type 0 where
  pub named : (id : ℕ) → has id new.ids.items ≡ (has id old.ids.items || test id)
  pub line : InLine slots old → InLine slots new

-- instructions are found in these blocks: the table has the block of each, and their numbers rise along each block
pub record FindsInstrs (x : Table) (bs : List Block) : Type 0 where
  pub homes : AreHomes bs x.order.block_of.items
  pub ranked : AreRanked x.order.slots bs
