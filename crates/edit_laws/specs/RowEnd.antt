-- Rows of a table in which a piece gets another end.
use Rattle.std.specs.Prelude.{◌≡◌, ◌≤◌, ℕ, cond, ◌&&◌, nat_eq, List, length}
use Rattle.mir_meaning.specs.Paths.{Code}
use Rattle.live_lanes.specs.declared.compute.flow.BlockFlow.{BlockFlow}
use Rattle.live_lanes.specs.declared.row.LaneRange.{LaneRange}
use Rattle.live_lanes.specs.declared.row.PieceEnd.{PieceEnd}
use Rattle.live_lanes.specs.Table.{Numbers, with_end}
use Rattle.live_lanes.specs.Entered.{rows_seen, causes, IsTableOf}
use Rattle.live_lanes.specs.Ends.{row_end}
use Rattle.edit_laws.specs.Chains.{Node, same_node}

-- a piece that is there gets another end; all else stays
pub record GivesEnd (old new : List LaneRange) (n : Node) (end : PieceEnd) : Type 0 where
  pub within : n.2 ≤ length (rows_seen old n.0 n.1).segments
  pub seen : (l b : ℕ) → rows_seen new l b ≡ cond (nat_eq n.0 l && nat_eq n.1 b) (with_end (rows_seen old n.0 n.1) n.2 end) (rows_seen old l b)
  pub lanes : length new ≡ length old

-- then the rows tell that end, the other ends and all causes as before, and are still a table of the code
pub record HasEnd (old new : List LaneRange) (n : Node) (end : PieceEnd) : Type 0 where
  pub ends : (l b k : ℕ) → row_end new l b k ≡ cond (same_node (l, b, k) n) end (row_end old l b k)
  pub same_causes : causes new ≡ causes old
  pub table : (code : Code) (slots : Numbers) (flow : List BlockFlow) → IsTableOf code slots flow old → IsTableOf code slots flow new

abbrev pub RowEndLaw : Type 0
RowEndLaw = (old new : List LaneRange) (n : Node) (end : PieceEnd) → GivesEnd old new n end → HasEnd old new n end
