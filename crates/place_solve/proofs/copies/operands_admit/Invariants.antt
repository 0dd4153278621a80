use Rattle.std.proofs.Common.{◌≡◌, drop}
use Rattle.std.specs.List.{list_all}
use Rattle.live_lanes.specs.Looks.{InOrder}
use Rattle.bound_operands.specs.Seen.{seen_all}
use Rattle.place_solve.specs.Copies.{operand_fits}
use Rattle.place_solve.proofs.copies.operands_admit.Given as goal

abbrev pub invariant-loop-b : goal.invariant-loop-b
invariant-loop-b l =
    InOrder l.live.table
    → list_all (operand_fits l.live.target l.live.func l.live.table l.i (seen_all l.bound)) (seen_all l.bound)
    ≡ list_all (operand_fits l.live.target l.live.func l.live.table l.i (seen_all l.bound)) (seen_all (drop l.b-index l.bound))
