-- Growing a table of causes.
use Rattle.std.specs.Prelude.{◌≡◌, ◌⊎◌, ℕ, Bool, true, false, cond, ◌&&◌, nat_eq, List, [], ◌∷◌, ◌++◌, length, map, Option, None, Some, slice_get, ◌≤◌}
use Rattle.live_lanes.specs.declared.compute.flow.BlockFlow.{BlockFlow}
use Rattle.live_lanes.specs.declared.row.Cause.{Cause}
use Rattle.live_lanes.specs.declared.row.LaneRange.{LaneRange}
use Rattle.live_lanes.specs.declared.table.PieceSpot.{PieceSpot}
use Rattle.mir_meaning.specs.Paths.{Among, Step, Code, steps_of, exits_of, Into, use_of}
use Rattle.live_lanes.specs.Graph.{Causes, is_live, writes_in, Founded, IsGrown}
pub use Rattle.live_lanes.specs.Certain.{blocks_of}
use Rattle.live_lanes.specs.Table.{Numbers, rises_from, piece_at, raised_seen, seen_in, cause_in, certain_cause, with_cause}
use Rattle.live_lanes.specs.Entered.{shape, rows_seen, causes, terminators, IsTableOf, cells_of}

abbrev pub spot : ℕ → ℕ → ℕ → PieceSpot
spot l b n = record { lane = l; block = b; index = n }

-- the numbers of the segments of each lane rise
abbrev pub PieceLaw : Type 0
PieceLaw = (code : Code) (slots : Numbers) (flow : List BlockFlow) (rows : List LaneRange) → IsTableOf code slots flow rows → (l b : ℕ) → rises_from slots 0 (rows_seen rows l b).segments ≡ true

-- the piece of a lane at the point of a rank in a block
abbrev pub piece_in_rows : Numbers → List LaneRange → ℕ → ℕ → ℕ → ℕ
piece_in_rows slots rows l b at = piece_at slots at (rows_seen rows l b).segments

abbrev pub raised_spots : Bool → PieceSpot → List PieceSpot
raised_spots true x = []
raised_spots false x = x ∷ []

-- a piece is given a cause, where it isn't live, and listed then; all else stays
pub record RaisedAt (old new : List LaneRange) (lane block n : ℕ) (cause : Cause) (from to : List PieceSpot) : Type 0 where
  pub seen : (l b : ℕ) → rows_seen new l b ≡ cond (nat_eq lane l && nat_eq block b) (raised_seen (is_live (causes old lane block n)) (rows_seen old lane block) n cause) (rows_seen old l b)
  pub list : to ≡ from ++ raised_spots (is_live (causes old lane block n)) (spot lane block n)
  pub lanes : length new ≡ length old

-- the same of the piece at the point of a rank
abbrev pub Raised : Numbers → List LaneRange → List LaneRange → ℕ → ℕ → ℕ → Cause → List PieceSpot → List PieceSpot → Type 0
Raised slots old new lane block at cause from to = RaisedAt old new lane block (piece_in_rows slots old lane block at) cause from to

abbrev pub AllFounded : Code → Causes → Type 0
AllFounded code why = (l b n : ℕ) → is_live (why l b n) ≡ true → Founded code why l b n

-- some pieces that weren't live are live, each with a right cause, and listed; all else stays
pub record Grew (code : Code) (old new : List LaneRange) (from to : List PieceSpot) : Type 0 where
  pub shapes : (l b : ℕ) → shape (rows_seen new l b) ≡ shape (rows_seen old l b)
  pub kept : (l b n : ℕ) → is_live (causes old l b n) ≡ true → causes new l b n ≡ causes old l b n
  pub added : List PieceSpot
  pub list : to ≡ from ++ added
  pub listed : (l b n : ℕ) → is_live (causes new l b n) ≡ true → (is_live (causes old l b n) ≡ true) ⊎ Among (spot l b n) added
  pub risen : (x : PieceSpot) → Among x added → is_live (causes new x.lane x.block x.index) ≡ true
  pub founded : AllFounded code (causes old) → AllFounded code (causes new)
  pub lanes : length new ≡ length old

-- the pieces of a lane at the exits of a block are live
pub record ExitsLive (code : Code) (why : Causes) (l b : ℕ) : Type 0 where
  pub end : is_live (why l b (writes_in l (steps_of code b))) ≡ true
  pub exit : (before : List Step) (s : Step) (rest : List Step) → steps_of code b ≡ before ++ s ∷ rest → s.leaves ≡ true → is_live (why l b (writes_in l (before ++ s ∷ []))) ≡ true

-- a lane that is live at the start of block `from` is raised at the exits of a block before it
abbrev pub RaisesExits : Numbers → List LaneRange → List LaneRange → ℕ → ℕ → ℕ → List ℕ → List PieceSpot → List PieceSpot → Type 0
RaisesExits slots old new lane block from ids listed to =
    (code : Code) (flow : List BlockFlow) → IsTableOf code slots flow old → is_live (causes old lane from 0) ≡ true → Among from (exits_of code block) → ids ≡ terminators flow block
    → Grew code old new listed to × ExitsLive code (causes new) lane block

-- a lane that is live at the start of a block is raised at the exits of all blocks before it
abbrev pub RaisesPredecessors : Numbers → List BlockFlow → List LaneRange → List LaneRange → ℕ → ℕ → List PieceSpot → List PieceSpot → Type 0
RaisesPredecessors slots flow old new lane block listed to =
    (code : Code) → IsTableOf code slots flow old → is_live (causes old lane block 0) ≡ true
    → Grew code old new listed to × ((b : ℕ) → Among block (exits_of code b) → ExitsLive code (causes new) lane b)

-- what leads to a live piece is live
pub record SourcesLive (code : Code) (why : Causes) (l b n : ℕ) : Type 0 where
  pub exits : n ≡ 0 → (x : ℕ) → Among b (exits_of code x) → ExitsLive code why l x
  pub move : (a : ℕ) (before : List Step) (s : Step) (rest : List Step) → steps_of code b ≡ before ++ s ∷ rest → use_of a s ≡ Into l → n ≡ writes_in l (before ++ s ∷ []) → is_live (why a b (writes_in a before)) ≡ true

abbrev pub RaisesSources : Numbers → List BlockFlow → List LaneRange → List LaneRange → PieceSpot → List PieceSpot → List PieceSpot → Type 0
RaisesSources slots flow old new x listed to =
    (code : Code) → IsTableOf code slots flow old → is_live (causes old x.lane x.block x.index) ≡ true
    → Grew code old new listed to × SourcesLive code (causes new) x.lane x.block x.index

-- the positions of the blocks that have a cell of the lane
abbrev pub row_blocks : List LaneRange → ℕ → List ℕ
row_blocks rows l = blocks_of (cells_of rows l)

abbrev pub KeepsBlocks : List LaneRange → List LaneRange → Type 0
KeepsBlocks old new = (l : ℕ) → row_blocks new l ≡ row_blocks old l

-- a piece with a reading that needs no other lane is live
abbrev pub Done : List LaneRange → ℕ → ℕ → ℕ → Type 0
Done rows l b n = is_live (certain_cause (rows_seen rows l b) n) ≡ true → is_live (causes rows l b n) ≡ true

-- the piece of a cell at a place is raised where it needs no other lane
abbrev pub RaisesPiece : List LaneRange → List LaneRange → ℕ → ℕ → ℕ → List PieceSpot → List PieceSpot → Type 0
RaisesPiece old new lane place index listed to =
    (code : Code) (slots : Numbers) (flow : List BlockFlow) → IsTableOf code slots flow old
    → Grew code old new listed to × ((b : ℕ) → slice_get (row_blocks old lane) place ≡ Some b → index ≤ length (rows_seen old lane b).segments → Done new lane b index)

-- all pieces of a cell
abbrev pub RaisesCell : List LaneRange → List LaneRange → ℕ → ℕ → List PieceSpot → List PieceSpot → Type 0
RaisesCell old new lane place listed to =
    (code : Code) (slots : Numbers) (flow : List BlockFlow) → IsTableOf code slots flow old
    → Grew code old new listed to × ((b n : ℕ) → slice_get (row_blocks old lane) place ≡ Some b → n ≤ length (rows_seen old lane b).segments → Done new lane b n)

-- all pieces of a lane
abbrev pub RaisesRow : List LaneRange → List LaneRange → ℕ → List PieceSpot → List PieceSpot → Type 0
RaisesRow old new lane listed to =
    (code : Code) (slots : Numbers) (flow : List BlockFlow) → IsTableOf code slots flow old
    → Grew code old new listed to × ((b n : ℕ) → n ≤ length (rows_seen old lane b).segments → Done new lane b n)

-- all pieces
abbrev pub RaisesAll : List LaneRange → List LaneRange → List PieceSpot → Type 0
RaisesAll old new to =
    (code : Code) (slots : Numbers) (flow : List BlockFlow) → IsTableOf code slots flow old
    → Grew code old new [] to × ((l b n : ℕ) → n ≤ length (rows_seen old l b).segments → Done new l b n)

-- growing from nothing: all pieces are live that are, and each has a cause
abbrev pub GrowsAll : Numbers → List BlockFlow → List LaneRange → List LaneRange → Type 0
GrowsAll slots flow old new =
    (code : Code) → IsTableOf code slots flow old → ((l b n : ℕ) → is_live (causes old l b n) ≡ false)
    → ((l b : ℕ) → shape (rows_seen new l b) ≡ shape (rows_seen old l b)) × IsGrown code (causes new) × (length new ≡ length old)
