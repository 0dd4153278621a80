use Rattle.std.proofs.Common.{◌≡◌, drop}
use Rattle.live_lanes.specs.Looks.{InOrder}
use Rattle.place_solve.specs.Positions.{entry_tests}
use Rattle.place_solve.proofs.position.is_entered.Given as goal

abbrev pub invariant-each : goal.invariant-each
invariant-each l = InOrder l.live.table → entry_tests l.live.target l.live.table l.u (drop l.k l.instrs) ≡ entry_tests l.live.target l.live.table l.u l.instrs
