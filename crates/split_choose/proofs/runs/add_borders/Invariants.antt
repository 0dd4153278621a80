use Rattle.std.proofs.Common.{◌≡◌, ◌+◌, ◌++◌, map, take, drop}
use Rattle.split_choose.specs.Offers.{at_start}
use Rattle.split_choose.proofs.runs.add_borders.Given as goal

abbrev pub invariant-starts : goal.invariant-starts
invariant-starts l = l.labels ≡ l.initial.labels ++ map (λ b. at_start b.number 1) (take l.offset (drop (l.a + 1) l.live.func.blocks))
