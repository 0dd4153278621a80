use Rattle.std.proofs.Common.{◌≡◌, true, List, take}
use Rattle.live_lanes.specs.declared.compute.flow.BlockFlow.{BlockFlow}
use Rattle.mir_meaning.specs.Paths.{Among, Code, exits_of}
use Rattle.live_lanes.specs.Graph.{is_live}
use Rattle.live_lanes.specs.Entered.{causes, terminators, IsTableOf}
use Rattle.live_lanes.proofs.Exits.{SomeExits}
use Rattle.live_lanes.proofs.table.LaneRanges.raise_exits.Given as goal

abbrev pub invariant-terminators : goal.invariant-terminators
invariant-terminators l =
    (code : Code) (flow : List BlockFlow) → IsTableOf code l.order.slots flow l.fn.self.rows.items → is_live (causes l.fn.self.rows.items l.lane l.fn.edge.to 0) ≡ true → Among l.fn.edge.to (exits_of code l.fn.edge.from) → l.terminators ≡ terminators flow l.fn.edge.from
    → SomeExits code l.order.slots l.fn.self.rows.items l.self.rows.items l.lane l.fn.edge.from (take l.id-index l.terminators) l.fn.risen.items l.risen.items
