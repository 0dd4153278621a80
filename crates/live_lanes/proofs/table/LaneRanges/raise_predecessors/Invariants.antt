use Rattle.std.proofs.Common.{◌≡◌, true, List, take}
use Rattle.mir_meaning.specs.Paths.{Code}
use Rattle.live_lanes.specs.Graph.{is_live}
use Rattle.live_lanes.specs.Entered.{causes, predecessors, IsTableOf}
use Rattle.live_lanes.proofs.Exits.{SomePredecessors}
use Rattle.live_lanes.proofs.table.LaneRanges.raise_predecessors.Given as goal

abbrev pub invariant-predecessors : goal.invariant-predecessors
invariant-predecessors l =
    (code : Code) → IsTableOf code l.order.slots l.flow l.fn.self.rows.items → is_live (causes l.fn.self.rows.items l.piece.lane l.piece.block 0) ≡ true
    → SomePredecessors code l.fn.self.rows.items l.self.rows.items l.piece.lane l.piece.block (take l.before-index l.before-items) l.fn.risen.items l.risen.items
