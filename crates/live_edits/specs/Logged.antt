-- What takes changes of rows back.
use Rattle.std.specs.Prelude.{◌≡◌, ◌≤◌, ℕ, Bool, true, false, cond, ◌&&◌, nat_eq, List, [], ◌∷◌, ◌++◌, is_some, length}
use Rattle.mir_meaning.specs.Paths.{Among}
use Rattle.live_lanes.specs.declared.row.LaneRange.{LaneRange}
use Rattle.live_lanes.specs.Table.{Seen, find_cell, cell_room, with_cause, with_end}
use Rattle.live_lanes.specs.Entered.{rows_seen, cells_of}
use Rattle.live_edits.specs.CellChanges.{seen_changed, reading_removed, fits_in}
use Rattle.live_edits.specs.declared.log.Former.{Former}
use Rattle.live_edits.specs.declared.log.Former.TheVariants as formers
use Rattle.live_edits.specs.declared.log.LoggedRows.{LoggedRows}

-- each lane in each block
abbrev pub AllSeen : Type 0
AllSeen = ℕ → ℕ → Seen

-- one of them as it was before a change
abbrev pub taken_back : Former → AllSeen → AllSeen
taken_back (formers.Life spot cause end) seen l b = cond (nat_eq spot.lane l && nat_eq spot.block b) (with_end (with_cause (seen l b) spot.index cause) spot.index end) (seen l b)
taken_back (formers.Shape lane block change) seen l b = cond (nat_eq lane l && nat_eq block b) (seen_changed change (seen l b)) (seen l b)
taken_back (formers.Read spot at) seen l b = cond (nat_eq spot.lane l && nat_eq spot.block b) (reading_removed spot.index at (seen l b)) (seen l b)

-- before all these changes, of which the last is taken back first
abbrev pub all_taken_back : List Former → AllSeen → AllSeen
all_taken_back [] seen = seen
all_taken_back (e ∷ es) seen = taken_back e (all_taken_back es seen)

-- the lane has a cell of its own in the block
abbrev pub has_cell : List LaneRange → ℕ → ℕ → Bool
has_cell rows l b = is_some (find_cell b (cells_of rows l))

-- how many pieces the cell's list of those that writings begin has room for
abbrev pub room_of : List LaneRange → ℕ → ℕ → ℕ
room_of rows l b = cell_room (find_cell b (cells_of rows l))

-- the cell is there, and so is the room that the change needs
abbrev pub cell_there : List LaneRange → Former → Bool
cell_there rows (formers.Life spot cause end) = has_cell rows spot.lane spot.block
cell_there rows (formers.Shape lane block change) = has_cell rows lane block && fits_in change (room_of rows lane block)
cell_there rows (formers.Read spot at) = has_cell rows spot.lane spot.block

-- each change that is logged concerns a cell that is there, with room for it
abbrev pub HasAllCells : List LaneRange → List Former → Type 0
HasAllCells rows es = (e : Former) → Among e es → cell_there rows e ≡ true

-- what changed is logged, so that it can be taken back; no cell and no room goes
pub record IsLogged (old new : LoggedRows) : Type 0 where
  pub added : List Former
  pub list : new.log.items ≡ old.log.items ++ added
  pub back : (l b : ℕ) → all_taken_back added (rows_seen new.rows.rows.items) l b ≡ rows_seen old.rows.rows.items l b
  pub lanes : length new.rows.rows.items ≡ length old.rows.rows.items
  pub cells : (l b : ℕ) → has_cell old.rows.rows.items l b ≡ true → has_cell new.rows.rows.items l b ≡ true
  pub rooms : (l b : ℕ) → room_of old.rows.rows.items l b ≤ room_of new.rows.rows.items l b
  pub there : HasAllCells new.rows.rows.items added

-- it is the life of a piece
abbrev pub is_life : Former → Bool
is_life (formers.Life spot cause end) = true
is_life (formers.Shape lane block change) = false
is_life (formers.Read spot at) = false

-- causes and ends change, and nothing else does; this is logged
pub record LogsLives (old new : LoggedRows) : Type 0 where
  pub logged : IsLogged old new
  pub lives : (e : Former) → Among e logged.added → is_life e ≡ true

-- rows as they were before all logged changes
pub record IsTakenBack (old new : LoggedRows) : Type 0 where
  pub seen : (l b : ℕ) → rows_seen new.rows.rows.items l b ≡ all_taken_back old.log.items (rows_seen old.rows.rows.items) l b
  pub lanes : length new.rows.rows.items ≡ length old.rows.rows.items
  pub empty : new.log.items ≡ []
