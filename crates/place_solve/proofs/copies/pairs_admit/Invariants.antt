use Rattle.std.proofs.Common.{◌≡◌, length}
use Rattle.std.specs.List.{list_all}
use Rattle.live_lanes.specs.Looks.{InOrder}
use Rattle.instr_effects.specs.Ends.{pairs_of}
use Rattle.place_solve.specs.Copies.{pair_fits}
use Rattle.place_solve.proofs.copies.pairs_admit.Given as goal

abbrev pub invariant-pairs : goal.invariant-pairs
invariant-pairs l = InOrder l.live.table → list_all (pair_fits l.live.target l.live.func l.live.table) (pairs_of l.left) ≡ list_all (pair_fits l.live.target l.live.func l.live.table) (pairs_of l.operands)

abbrev pub decreases-pairs : goal.decreases-pairs
decreases-pairs l = length l.left
