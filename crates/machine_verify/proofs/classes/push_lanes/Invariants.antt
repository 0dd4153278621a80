use Rattle.std.proofs.Common.{◌≡◌, ◌++◌, drop}
use Rattle.machine_verify.proofs.classes.push_lanes.Given as goal

abbrev pub invariant-loop-k : goal.invariant-loop-k
invariant-loop-k l = l.out.items ++ drop l.k-index l.lanes ≡ l.initial.out.items ++ l.lanes
