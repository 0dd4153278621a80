use Rattle.std.proofs.Common.{◌≡◌, drop}
use Rattle.mir_interp.specs.Running.{read_no_lane}
use Rattle.mir_interp.proofs.machine.read_no_lane.Given as goal

abbrev pub invariant-loop-w : goal.invariant-loop-w
invariant-loop-w l = read_no_lane (drop l.w-index l.writes) ≡ read_no_lane l.writes
