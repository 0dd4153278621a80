use Rattle.std.proofs.Common.{◌≡◌}
use Rattle.split_choose.specs.Built.{range_positions}
use Rattle.split_choose.proofs.spans.all_positions.Given as goal

abbrev pub invariant-lanes : goal.invariant-lanes
invariant-lanes l = l.positions.items ≡ range_positions l.live.table l.v l.k
