use Rattle.std.proofs.Common.{◌≡◌, drop}
use Rattle.live_lanes.specs.Looks.{InOrder}
use Rattle.place_solve.specs.Positions.{exit_tests}
use Rattle.place_solve.proofs.position.is_exited.Given as goal

abbrev pub invariant-each : goal.invariant-each
invariant-each l = InOrder l.live.table → exit_tests l.live.target l.live.table l.u (drop l.i-index l.instrs) ≡ exit_tests l.live.target l.live.table l.u l.instrs
