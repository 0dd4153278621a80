use Rattle.live_lanes.proofs.Alike.{Agree, SameCell}
use Rattle.live_lanes.proofs.ask.size.are_cells_alike.Given as goal

abbrev pub invariant-cells : goal.invariant-cells
invariant-cells l = Agree SameCell l.a l.b l.k
