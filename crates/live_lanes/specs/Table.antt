-- The pieces of the lanes of a function as the code keeps them, and how it finds them.
use Rattle.std.specs.Prelude.{◌≡◌, ◌≢◌, ℕ, zero, suc, ◌+◌, ◌*◌, Bool, true, false, cond, ◌&&◌, nat_eq, nat_lt, nat_le, List, [], ◌∷◌, Option, None, Some, slice_get, slice_set, option_map, find, reverse, length, map, ◌++◌, vec_capacity}
use Rattle.slot_index.specs.Order.{number_of}
use Rattle.live_lanes.specs.declared.row.Cause.{Cause}
use Rattle.live_lanes.specs.declared.row.Cause.TheVariants as causes
use Rattle.live_lanes.specs.declared.row.PieceEnd.{PieceEnd}
use Rattle.live_lanes.specs.declared.row.PieceEnd.TheVariants as ends
use Rattle.live_lanes.specs.declared.row.LaneUse.{LaneUse}
use Rattle.live_lanes.specs.declared.row.Piece.{Piece}
use Rattle.live_lanes.specs.declared.row.DefPiece.{DefPiece}
use Rattle.live_lanes.specs.declared.row.Cell.{Cell}
use Rattle.live_lanes.specs.Graph.{is_live}

-- how many elements in a row, from the first, pass the test
abbrev pub leading : {X : Type 0} → (X → Bool) → List X → ℕ
leading test [] = 0
leading test (x ∷ xs) = cond (test x) (suc (leading test xs)) 0

-- numbers of points, which rise along a block
abbrev pub Numbers : Type 0
Numbers = List (ℕ × ℕ)

abbrev pub entry_rank : Numbers → ℕ → ℕ
entry_rank slots id = number_of slots id * 2

abbrev pub exit_rank : Numbers → ℕ → ℕ
exit_rank slots id = number_of slots id * 2 + 1

abbrev pub end_rank : Numbers → PieceEnd → ℕ
end_rank slots ends.Never = 0
end_rank slots (ends.Entry id) = entry_rank slots id
end_rank slots (ends.Exit id) = exit_rank slots id
end_rank slots ends.Last = 340282366920938463463374607431768211455

-- the cell of a block
abbrev pub find_cell : ℕ → List Cell → Option Cell
find_cell b [] = None
find_cell b (c ∷ cs) = cond (nat_eq c.block b) (Some c) (find_cell b cs)

-- how many pieces its list of those that writings begin has room for
abbrev pub cell_room : Option Cell → ℕ
cell_room None = 0
cell_room (Some c) = vec_capacity c.segments

abbrev pub is_before : ℕ → Cell → Bool
is_before b c = nat_lt b c.block

abbrev pub is_below : ℕ → List Cell → Bool
is_below b [] = true
is_below b (c ∷ cs) = nat_lt c.block b

-- the cells stand from the last block to the first
abbrev pub descends : List Cell → Bool
descends [] = true
descends (c ∷ cs) = is_below c.block cs && descends cs

-- a piece that begins with a writing
pub record Begun : Type 0 where
  pub start : ℕ
  pub early : Bool
  pub from : Option ℕ
  pub cause : Cause
  pub end : PieceEnd
  pub readings : List LaneUse

-- what a lane's cell in a block tells; where there is none, nothing is read, written or live
pub record Seen : Type 0 where
  pub is_read_last : Bool
  pub cause : Cause
  pub end : PieceEnd
  pub readings : List LaneUse
  pub segments : List Begun

abbrev pub unseen : Seen
unseen = record { is_read_last = false; cause = causes.None; end = ends.Never; readings = []; segments = [] }

abbrev pub begun : DefPiece → Begun
begun s = record { start = s.start; early = s.early; from = s.from; cause = s.piece.cause; end = s.piece.end; readings = s.piece.readings.items }

abbrev pub seen_cell : Cell → Seen
seen_cell c = record { is_read_last = c.is_read_last; cause = c.first.cause; end = c.first.end; readings = c.first.readings.items; segments = map begun c.segments.items }

abbrev pub seen : Option Cell → Seen
seen None = unseen
seen (Some c) = seen_cell c

-- a lane in a block
abbrev pub seen_in : List Cell → ℕ → Seen
seen_in cells b = seen (find_cell b cells)

abbrev pub begun_cause : Option Begun → Cause
begun_cause None = causes.None
begun_cause (Some s) = s.cause

-- why a piece is live, by its number
abbrev pub cause_in : Seen → ℕ → Cause
cause_in v zero = v.cause
cause_in v (suc k) = begun_cause (slice_get v.segments k)

abbrev pub begun_end : Option Begun → PieceEnd
begun_end None = ends.Never
begun_end (Some s) = s.end

-- up to where a piece is live
abbrev pub end_in : Seen → ℕ → PieceEnd
end_in v zero = v.end
end_in v (suc k) = begun_end (slice_get v.segments k)

abbrev pub begun_readings : Option Begun → List LaneUse
begun_readings None = []
begun_readings (Some s) = s.readings

-- the readings of a piece
abbrev pub readings_in : Seen → ℕ → List LaneUse
readings_in v zero = v.readings
readings_in v (suc k) = begun_readings (slice_get v.segments k)

abbrev pub begun_with_cause : Cause → Begun → Begun
begun_with_cause c s = record s { cause = c }

abbrev pub begun_with_end : PieceEnd → Begun → Begun
begun_with_end e s = record s { end = e }

-- the list with its element at a place changed
abbrev pub changed_at : {X : Type 0} → ℕ → (X → X) → List X → List X
changed_at n f [] = []
changed_at zero f (x ∷ xs) = f x ∷ xs
changed_at (suc n) f (x ∷ xs) = x ∷ changed_at n f xs

-- a piece has another cause
abbrev pub with_cause : Seen → ℕ → Cause → Seen
with_cause v zero c = record v { cause = c }
with_cause v (suc k) c = record v { segments = changed_at k (begun_with_cause c) v.segments }

-- a piece has another end
abbrev pub with_end : Seen → ℕ → PieceEnd → Seen
with_end v zero e = record v { end = e }
with_end v (suc k) e = record v { segments = changed_at k (begun_with_end e) v.segments }

-- the segment begins at or before the point of that rank
abbrev pub is_begun : Numbers → ℕ → Begun → Bool
is_begun slots at s = nat_le (exit_rank slots s.start) at

-- the numbers of the segments rise
abbrev pub rises_from : Numbers → ℕ → List Begun → Bool
rises_from slots n [] = true
rises_from slots n (s ∷ ss) = nat_lt n (number_of slots s.start) && rises_from slots (number_of slots s.start) ss

-- the piece that the point of that rank lies in
abbrev pub piece_at : Numbers → ℕ → List Begun → ℕ
piece_at slots at segments = leading (is_begun slots at) segments

-- a piece of a cell, by its number
abbrev pub piece_in : Cell → ℕ → Option Piece
piece_in c zero = Some c.first
piece_in c (suc k) = option_map (λ s. s.piece) (slice_get c.segments.items k)

-- the lane is read in any case
abbrev pub is_certain : LaneUse → Bool
is_certain r = is_no_lane r.into
  where
    is_no_lane : Option ℕ → Bool
    is_no_lane None = true
    is_no_lane (Some a) = false

abbrev pub cause_of : Option LaneUse → Cause
cause_of None = causes.None
cause_of (Some r) = causes.Reading r.id

-- why a piece is live without any other lane: a phi that reads the lane behind its last piece, or the last certain reading
abbrev pub certain_cause : Seen → ℕ → Cause
certain_cause v n = cond (v.is_read_last && nat_eq n (length v.segments)) causes.Phi (cause_of (find is_certain (reverse (readings_in v n))))

-- the last element passes the test
abbrev pub last_passes : {X : Type 0} → (X → Bool) → List X → Bool
last_passes test [] = false
last_passes test (x ∷ []) = test x
last_passes test (x ∷ y ∷ xs) = last_passes test (y ∷ xs)

abbrev pub ends_with : ℕ → List LaneUse → Bool
ends_with id rs = last_passes (λ r. nat_eq r.id id) rs

-- an instruction's first reading of a lane counts
abbrev pub with_last : LaneUse → List LaneUse → List LaneUse
with_last r rs = cond (ends_with r.id rs) rs (rs ++ r ∷ [])

-- the last element changed
abbrev pub changed_last : {X : Type 0} → (X → X) → List X → List X
changed_last f [] = []
changed_last f (x ∷ []) = f x ∷ []
changed_last f (x ∷ y ∷ xs) = x ∷ changed_last f (y ∷ xs)

abbrev pub is_none : {X : Type 0} → List X → Bool
is_none [] = true
is_none (x ∷ xs) = false

-- a reading added to the last piece
abbrev pub with_reading : LaneUse → Seen → Seen
with_reading r v = cond (is_none v.segments) (record v { readings = with_last r v.readings }) (record v { segments = changed_last (λ s. record s { readings = with_last r s.readings }) v.segments })

abbrev pub starts_last : ℕ → List Begun → Bool
starts_last id ss = last_passes (λ s. nat_eq s.start id) ss

abbrev pub new_begun : ℕ → Bool → Option ℕ → Begun
new_begun id early from = record { start = id; early = early; from = from; cause = causes.None; end = ends.Never; readings = [] }

-- a piece added behind the others; an instruction's first writing of a lane counts
abbrev pub with_segment : ℕ → Bool → Option ℕ → Seen → Seen
with_segment id early from v = cond (starts_last id v.segments) v (record v { segments = v.segments ++ new_begun id early from ∷ [] })

abbrev pub read_at_end : Seen → Seen
read_at_end v = record v { is_read_last = true }

-- what is raised in a row: the piece of a block that the point lies in is given a cause and answered, where it isn't live; all else stays
abbrev pub raised_index : Bool → ℕ → Option ℕ
raised_index true n = None
raised_index false n = Some n

abbrev pub raised_seen : Bool → Seen → ℕ → Cause → Seen
raised_seen true v n c = v
raised_seen false v n c = with_cause v n c

pub record IsRaised (slots : Numbers) (old new : List Cell) (block at : ℕ) (cause : Cause) (index : Option ℕ) : Type 0 where
  pub answer : let n = piece_at slots at (seen_in old block).segments in index ≡ raised_index (is_live (cause_in (seen_in old block) n)) n
  pub seen : let n = piece_at slots at (seen_in old block).segments in (b : ℕ) → seen_in new b ≡ cond (nat_eq block b) (raised_seen (is_live (cause_in (seen_in old block) n)) (seen_in old block) n cause) (seen_in old b)

-- a lane in block b, where a piece of a cell gets an end
abbrev pub with_end_at : Option Cell → ℕ → PieceEnd → Seen → ℕ → Seen
with_end_at None index end v b = v
with_end_at (Some c) index end v b = cond (nat_eq c.block b) (with_end v index end) v

-- the instruction that begins a piece by a move, and the lane that it moves
abbrev pub begun_move : Begun → Option (ℕ × ℕ)
begun_move s = option_map (λ f. (s.start, f)) s.from

abbrev pub moved_at : Option Begun → Option (ℕ × ℕ)
moved_at None = None
moved_at (Some s) = begun_move s

abbrev pub moved_in : Seen → ℕ → Option (ℕ × ℕ)
moved_in v zero = None
moved_in v (suc k) = moved_at (slice_get v.segments k)
