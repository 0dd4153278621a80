-- Changes of single cells of rows.
use Rattle.std.specs.Prelude.{◌≡◌, ◌≤◌, ℕ, true, cond, ◌&&◌, nat_eq, List, [], ◌∷◌, ◌++◌, is_some, length}
use Rattle.live_lanes.specs.declared.row.Cell.{Cell}
use Rattle.live_lanes.specs.declared.row.LaneRange.{LaneRange}
use Rattle.live_edits.specs.declared.pieces.PieceSpot.{PieceSpot}
use Rattle.live_lanes.specs.Table.{Seen, seen_in, find_cell, cell_room}
use Rattle.live_lanes.specs.Entered.{rows_seen, causes}
use Rattle.live_lanes.specs.Ends.{row_end}
use Rattle.live_edits.specs.declared.log.Former.{Former}
use Rattle.live_edits.specs.declared.log.Former.TheVariants as formers
use Rattle.live_edits.specs.declared.log.LoggedRows.{LoggedRows}
use Rattle.live_edits.specs.Logged.{has_cell, room_of, taken_back}

-- the cell of a block of a row changes so; no cell comes or goes, and no room goes
pub record ChangesRow (old new : List Cell) (block : ℕ) (change : Seen → Seen) : Type 0 where
  pub seen : (b : ℕ) → seen_in new b ≡ cond (nat_eq block b) (change (seen_in old b)) (seen_in old b)
  pub cells : (b : ℕ) → is_some (find_cell b new) ≡ is_some (find_cell b old)
  pub rooms : (b : ℕ) → cell_room (find_cell b old) ≤ cell_room (find_cell b new)

-- the cell of a lane in a block changes so; no cell comes or goes, and no room goes
pub record ChangesCell (old new : List LaneRange) (lane block : ℕ) (change : Seen → Seen) : Type 0 where
  pub seen : (l b : ℕ) → rows_seen new l b ≡ cond (nat_eq lane l && nat_eq block b) (change (rows_seen old l b)) (rows_seen old l b)
  pub cells : (l b : ℕ) → has_cell new l b ≡ has_cell old l b
  pub rooms : (l b : ℕ) → room_of old l b ≤ room_of new l b
  pub lanes : length new ≡ length old

-- cells may have come, which say nothing
pub record AddsCells (old new : List LaneRange) : Type 0 where
  pub seen : (l b : ℕ) → rows_seen new l b ≡ rows_seen old l b
  pub cells : (l b : ℕ) → has_cell old l b ≡ true → has_cell new l b ≡ true
  pub rooms : (l b : ℕ) → room_of old l b ≤ room_of new l b
  pub lanes : length new ≡ length old

-- the cause and the end of a piece are logged; its cell is there
pub record LogsLife (old new : LoggedRows) (spot : PieceSpot) : Type 0 where
  pub rows : AddsCells old.rows.rows.items new.rows.rows.items
  pub there : has_cell new.rows.rows.items spot.lane spot.block ≡ true
  pub list : new.log.items ≡ old.log.items ++ formers.Life spot (causes old.rows.rows.items spot.lane spot.block spot.index) (row_end old.rows.rows.items spot.lane spot.block spot.index) ∷ []

-- one change is taken back
pub record TakesBack (old new : List LaneRange) (former : Former) : Type 0 where
  pub seen : (l b : ℕ) → rows_seen new l b ≡ taken_back former (rows_seen old) l b
  pub cells : (l b : ℕ) → has_cell new l b ≡ has_cell old l b
  pub rooms : (l b : ℕ) → room_of old l b ≤ room_of new l b
  pub lanes : length new ≡ length old
