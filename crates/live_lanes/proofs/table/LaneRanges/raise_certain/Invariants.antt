use Rattle.live_lanes.specs.declared.compute.flow.BlockFlow.{BlockFlow}
use Rattle.std.proofs.Common.{List, []}
use Rattle.mir_meaning.specs.Paths.{Code}
use Rattle.live_lanes.specs.Table.{Numbers}
use Rattle.live_lanes.specs.Entered.{IsTableOf}
use Rattle.live_lanes.proofs.Certainty.{SomeLanes}
use Rattle.live_lanes.proofs.table.LaneRanges.raise_certain.Given as goal

abbrev pub invariant-lanes : goal.invariant-lanes
invariant-lanes l =
    (code : Code) (slots : Numbers) (flow : List BlockFlow) → IsTableOf code slots flow l.fn.self.rows.items → SomeLanes code l.fn.self.rows.items l.self.rows.items l.lane [] l.risen.items
