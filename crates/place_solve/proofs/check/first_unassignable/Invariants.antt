use Rattle.live_lanes.specs.Looks.{InOrder}
use Rattle.place_solve.specs.Told.{BlocksServe}
use Rattle.place_solve.proofs.check.first_unassignable.Given as goal

abbrev pub invariant-tested : goal.invariant-tested
invariant-tested l = InOrder l.live.table → BlocksServe l.live.target l.live.func l.live.table l.f.blocks l.k
