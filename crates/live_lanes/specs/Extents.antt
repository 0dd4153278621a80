-- The points of lanes, piece by piece, and whether a lane has one of a stretch of points.
use Rattle.std.specs.Prelude.{ℕ, zero, suc, ◌+◌, ◌-◌, Bool, true, false, cond, nat_eq, List, [], Option, None, Some, max, nat_le, slice_get, option_map}
use Rattle.std.specs.List.{list_any, filter_map}
use Rattle.mir_meaning.specs.Registers.{numbers}
use Rattle.instr_effects.specs.declared.owner.Owner.{Owner}
use Rattle.instr_effects.specs.declared.owner.Owner.TheVariants as owners
use Rattle.instr_effects.specs.declared.row.LaneSpan.{LaneSpan}
use Rattle.live_lanes.specs.declared.row.PieceEnd.{PieceEnd}
use Rattle.live_lanes.specs.declared.row.DefPiece.{DefPiece}
use Rattle.live_lanes.specs.declared.row.Cell.{Cell}
use Rattle.live_lanes.specs.declared.ask.extent.Extent.{Extent}
use Rattle.live_lanes.specs.declared.ask.extent.Stretch.{Stretch}
use Rattle.live_lanes.specs.declared.table.Table.{Table}
use Rattle.live_lanes.specs.Table.{Numbers, Begun, Seen, leading, entry_rank, exit_rank, end_rank, find_cell}
use Rattle.live_lanes.specs.Entered.{rows_seen, cells_of, piece_count}
use Rattle.live_lanes.specs.Reach.{is_never}
use Rattle.live_lanes.specs.Held.{held_at, hold_rank}

-- how many lanes a range has
abbrev pub lanes_count : Option LaneSpan → ℕ
lanes_count None = 0
lanes_count (Some own) = own.count

-- the range and the number of the lane in it, where the owner of a number is a range's lane
abbrev pub range_lane : Option Owner → Option (ℕ × ℕ)
range_lane None = None
range_lane (Some (owners.Unit u)) = None
range_lane (Some (owners.Range v k)) = Some (v, k)
range_lane (Some (owners.Slot s k)) = None

-- the points of the piece that begins with the block, if it has any
abbrev pub block_extent : PieceEnd → Option Extent
block_extent e = cond (is_never e) None (Some (record { start = None; early = false; end = e }))

-- those of a piece that begins with a writing
abbrev pub segment_extent : DefPiece → Extent
segment_extent s = record { start = Some s.start; early = s.early; end = s.piece.end }

-- those of a piece of a cell, by its number
abbrev pub extent_in : Option Cell → ℕ → Option Extent
extent_in None index = None
extent_in (Some c) zero = block_extent c.first.end
extent_in (Some c) (suc k) = option_map segment_extent (slice_get c.segments.items k)

-- the instruction that begins a piece of a cell, by the piece's number; none for the one that begins with the block
abbrev pub start_in : Option Cell → ℕ → Option ℕ
start_in None index = None
start_in (Some c) zero = None
start_in (Some c) (suc k) = option_map (λ s. s.start) (slice_get c.segments.items k)

-- the points of all pieces of a cell
abbrev pub cell_extents : Cell → List Extent
cell_extents c = filter_map (extent_in (Some c)) (numbers 0 (piece_count (Some c)))

abbrev pub some_extents : Option Cell → List Extent
some_extents None = []
some_extents (Some c) = cell_extents c

-- those of the lane of that number in the block at a position
abbrev pub extents_in : Table → ℕ → ℕ → List Extent
extents_in x n p = some_extents (find_cell p (cells_of x.rows.rows.items n))

-- both are none, or the same instruction
abbrev pub is_same_start : Option ℕ → Option ℕ → Bool
is_same_start None None = true
is_same_start None (Some b) = false
is_same_start (Some a) None = false
is_same_start (Some a) (Some b) = nat_eq a b

-- the points begin with that instruction, or with the block
abbrev pub begins_with : Option ℕ → Extent → Bool
begins_with start e = is_same_start e.start start

-- the block's start, or the first point that the writing occupies
abbrev pub first_rank : Numbers → Extent → ℕ
first_rank slots e = elim e.start [ None ↦ 0 | Some id ↦ cond e.early (entry_rank slots id) (exit_rank slots id) ]

-- the last point at which the lane is live, or that the writing occupies
abbrev pub last_rank : Numbers → Extent → ℕ
last_rank slots e = elim e.start [ None ↦ end_rank slots e.end | Some id ↦ max (end_rank slots e.end) (exit_rank slots id) ]

abbrev pub stretch_of : Numbers → Extent → Stretch
stretch_of slots e = record { first = first_rank slots e; last = last_rank slots e }

-- how many pieces begin with writings that occupy the lane at the point or before it
abbrev pub begun_by : Numbers → ℕ → List Begun → ℕ
begun_by slots at ss = leading (λ s. nat_le (hold_rank slots s) at) ss

-- a lane in a block is live or occupied at one of these points
abbrev pub is_met_in : Numbers → Seen → Stretch → Bool
is_met_in slots v at = list_any (held_at slots v) (numbers at.first (at.last + 1 - at.first))

-- the lane of that number is, in the block at a position
abbrev pub is_met : Table → ℕ → ℕ → Stretch → Bool
is_met x lane block at = is_met_in x.order.slots (rows_seen x.rows.rows.items lane block) at
