use Rattle.live_lanes.specs.Looks.{InOrder}
use Rattle.place_solve.specs.Told.{AllServe}
use Rattle.place_solve.proofs.check.unassignable.Given as goal

abbrev pub invariant-each : goal.invariant-each
invariant-each l = InOrder l.live.table → AllServe l.live.target l.live.func l.live.table l.instrs l.j
