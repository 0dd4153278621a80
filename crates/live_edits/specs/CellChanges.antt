-- Changes of what a cell tells.
use Rattle.std.specs.Prelude.{ℕ, suc, zero, Bool, true, cond, ◌&&◌, nat_le, nat_lt, List, [], ◌∷◌, Option, length}
use Rattle.std.specs.List.{insert, remove}
use Rattle.live_lanes.specs.declared.row.LaneUse.{LaneUse}
use Rattle.live_lanes.specs.Table.{Seen, Begun, begun, changed_at}
use Rattle.live_edits.specs.declared.cell_change.CellChange.{CellChange}
use Rattle.live_edits.specs.declared.cell_change.CellChange.TheVariants as changes

abbrev pub begun_with_readings : List LaneUse → Begun → Begun
begun_with_readings rs s = record s { readings = rs }

-- a piece has other readings
abbrev pub with_readings : Seen → ℕ → List LaneUse → Seen
with_readings v zero rs = record v { readings = rs }
with_readings v (suc k) rs = record v { segments = changed_at k (begun_with_readings rs) v.segments }

-- the readings of a piece, by its number
abbrev pub piece_readings : List LaneUse → List Begun → ℕ → List LaneUse
piece_readings rs ss zero = rs
piece_readings rs [] (suc k) = []
piece_readings rs (s ∷ ss) (suc k) = piece_readings s.readings ss k

-- they become others
abbrev pub readings_changed : (List LaneUse → List LaneUse) → ℕ → Seen → Seen
readings_changed change index v = with_readings v index (change (piece_readings v.readings v.segments index))

-- a reading comes at a place, if there is that place
abbrev pub reading_put : ℕ → LaneUse → List LaneUse → List LaneUse
reading_put at r rs = cond (nat_le at (length rs)) (insert rs at r) rs

-- a reading moves its lane into this one, or none
abbrev pub reading_into : Option ℕ → LaneUse → LaneUse
reading_into into r = record r { into = into }

abbrev pub reading_added : ℕ → ℕ → LaneUse → Seen → Seen
reading_added index at r v = readings_changed (reading_put at r) index v

abbrev pub reading_removed : ℕ → ℕ → Seen → Seen
reading_removed index at v = readings_changed (λ rs. remove rs at) index v

abbrev pub begun_with_writing : Bool → Option ℕ → Begun → Begun
begun_with_writing early from s = record s { early = early; from = from }

-- there is room for one more at that place
abbrev pub has_place : ℕ → ℕ → ℕ → Bool
has_place at count len = nat_le at len && nat_lt len count

-- the cell after a change
abbrev pub seen_changed : CellChange → Seen → Seen
seen_changed (changes.Readings index readings) v = with_readings v index readings.items
seen_changed (changes.SetReading index at into) v = readings_changed (changed_at at (reading_into into)) index v
seen_changed (changes.Writing at early from) v = record v { segments = changed_at at (begun_with_writing early from) v.segments }
seen_changed (changes.Begin at piece count) v = cond (has_place at count (length v.segments)) (record v { segments = insert v.segments at (begun piece) }) v
seen_changed (changes.Join at) v = record v { segments = remove v.segments at }

-- the change takes no memory where the pieces have so much room
abbrev pub fits_in : CellChange → ℕ → Bool
fits_in (changes.Readings index readings) room = true
fits_in (changes.SetReading index at into) room = true
fits_in (changes.Writing at early from) room = true
fits_in (changes.Begin at piece count) room = nat_le count room
fits_in (changes.Join at) room = true
