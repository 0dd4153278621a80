-- Pieces as the code names them, and what stays of rows while their causes and ends change.
use Rattle.std.specs.Prelude.{◌≡◌, ◌<◌, ◌≤◌, ℕ, List, length, map}
use Rattle.mir_meaning.specs.Paths.{Among}
use Rattle.live_lanes.specs.declared.row.LaneRange.{LaneRange}
use Rattle.live_edits.specs.declared.pieces.PieceSpot.{PieceSpot}
use Rattle.live_lanes.specs.Entered.{shape, rows_seen}
use Rattle.live_lanes.specs.Ends.{row_end}
use Rattle.edit_laws.specs.Chains.{Node}
use Rattle.edit_laws.specs.Update.{Request}
use Rattle.live_edits.specs.declared.pieces.Need.{Need}

abbrev pub node_of : PieceSpot → Node
node_of p = (p.lane, p.block, p.index)

abbrev pub nodes_of : List PieceSpot → List Node
nodes_of ps = map node_of ps

-- the first list has all pieces of the other one
abbrev pub HasAll : List PieceSpot → List PieceSpot → Type 0
HasAll xs ys = (n : Node) → Among n (nodes_of ys) → Among n (nodes_of xs)

abbrev pub request_of : Need → Request
request_of n = record { node = node_of n.spot; cause = n.cause }

abbrev pub requests_of : List Need → List Request
requests_of ns = map request_of ns

-- the rows have that lane, and as many pieces of it in the block
pub record IsThere (rows : List LaneRange) (n : Node) : Type 0 where
  pub lane : n.0 < length rows
  pub piece : n.2 ≤ length (rows_seen rows n.0 n.1).segments

-- so it is with all that is asked for
abbrev pub AreThere : List LaneRange → List Need → Type 0
AreThere rows queue = (r : Request) → Among r (requests_of queue) → IsThere rows r.node

-- causes may have changed, and nothing else
pub record KeepsPieces (old new : List LaneRange) : Type 0 where
  pub shapes : (l b : ℕ) → shape (rows_seen new l b) ≡ shape (rows_seen old l b)
  pub ends : (l b n : ℕ) → row_end new l b n ≡ row_end old l b n
  pub lanes : length new ≡ length old
