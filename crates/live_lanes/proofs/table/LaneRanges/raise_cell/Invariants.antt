use Rattle.live_lanes.specs.declared.compute.flow.BlockFlow.{BlockFlow}
use Rattle.std.proofs.Common.{List}
use Rattle.mir_meaning.specs.Paths.{Code}
use Rattle.live_lanes.specs.Table.{Numbers}
use Rattle.live_lanes.specs.Entered.{IsTableOf}
use Rattle.live_lanes.specs.Growth.{KeepsBlocks}
use Rattle.live_lanes.proofs.Certainty.{SomePieces}
use Rattle.live_lanes.proofs.table.LaneRanges.raise_cell.Given as goal

abbrev pub invariant-pieces : goal.invariant-pieces
invariant-pieces l = record {
  blocks : KeepsBlocks l.fn.self.rows.items l.self.rows.items;
  raised : (code : Code) (slots : Numbers) (flow : List BlockFlow) → IsTableOf code slots flow l.fn.self.rows.items → SomePieces code l.fn.self.rows.items l.self.rows.items l.lane l.place l.index l.fn.risen.items l.risen.items;
}
