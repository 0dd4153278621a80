use Rattle.std.proofs.Common.{◌≡◌, ◌-◌}
use Rattle.std.specs.List.{list_any}
use Rattle.mir_meaning.specs.Registers.{numbers}
use Rattle.machine_verify.specs.Lives.{lane_lives}
use Rattle.machine_verify.proofs.verify.some_lane_lives.Given as goal

abbrev pub invariant-lanes : goal.invariant-lanes
invariant-lanes l = list_any (lane_lives l.live.table l.block l.v) (numbers 0 l.lanes) ≡ list_any (lane_lives l.live.table l.block l.v) (numbers l.lane (l.lanes - l.lane))
