use Rattle.std.proofs.Common.{◌≡◌, ℕ, false, List}
use Rattle.mir_meaning.specs.Paths.{Code}
use Rattle.live_lanes.specs.Graph.{is_live}
use Rattle.live_lanes.specs.Entered.{causes, IsTableOf}
use Rattle.live_lanes.proofs.Whole.{SomeGrown}
use Rattle.live_lanes.proofs.table.LaneRanges.grow.Given as goal

abbrev pub invariant-spots : goal.invariant-spots
invariant-spots l =
    (code : Code) → IsTableOf code l.order.slots l.flow l.fn.self.rows.items → ((lane b n : ℕ) → is_live (causes l.fn.self.rows.items lane b n) ≡ false) → SomeGrown code l.fn.self.rows.items l.self.rows.items l.k l.risen.items
