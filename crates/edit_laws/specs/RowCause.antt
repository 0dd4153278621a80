-- Rows of a table in which a piece gets another cause.
use Rattle.std.specs.Prelude.{◌≡◌, ◌≤◌, ℕ, cond, ◌&&◌, nat_eq, List, length}
use Rattle.mir_meaning.specs.Paths.{Code}
use Rattle.live_lanes.specs.declared.compute.flow.BlockFlow.{BlockFlow}
use Rattle.live_lanes.specs.declared.row.Cause.{Cause}
use Rattle.live_lanes.specs.declared.row.LaneRange.{LaneRange}
use Rattle.live_lanes.specs.Table.{Numbers, with_cause}
use Rattle.live_lanes.specs.Entered.{rows_seen, causes, IsTableOf}
use Rattle.edit_laws.specs.Chains.{Node}
use Rattle.edit_laws.specs.Update.{given}

-- a piece that is there gets another cause; all else stays
pub record GivesCause (old new : List LaneRange) (n : Node) (cause : Cause) : Type 0 where
  pub within : n.2 ≤ length (rows_seen old n.0 n.1).segments
  pub seen : (l b : ℕ) → rows_seen new l b ≡ cond (nat_eq n.0 l && nat_eq n.1 b) (with_cause (rows_seen old n.0 n.1) n.2 cause) (rows_seen old l b)
  pub lanes : length new ≡ length old

-- then the rows tell the causes that such a step leaves, and are still a table of the code
pub record HasGiven (old new : List LaneRange) (n : Node) (cause : Cause) : Type 0 where
  pub causes_are : causes new ≡ given (causes old) n cause
  pub table : (code : Code) (slots : Numbers) (flow : List BlockFlow) → IsTableOf code slots flow old → IsTableOf code slots flow new

abbrev pub RowCauseLaw : Type 0
RowCauseLaw = (old new : List LaneRange) (n : Node) (cause : Cause) → GivesCause old new n cause → HasGiven old new n cause
