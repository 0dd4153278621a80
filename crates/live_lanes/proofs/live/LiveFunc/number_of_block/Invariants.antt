use Rattle.std.proofs.Common.{◌≡◌, ◌<◌, length, take}
use Rattle.live_lanes.specs.Ordered.{all_ids}
use Rattle.live_lanes.proofs.live.LiveFunc.number_of_block.Given as goal

abbrev pub invariant-each : goal.invariant-each
invariant-each l = length (all_ids (take l.block-index l.before)) < 18446744073709551616 → l.number ≡ length (all_ids (take l.block-index l.before))
