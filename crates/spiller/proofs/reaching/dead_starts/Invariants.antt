use Rattle.std.proofs.Common.{◌≡◌, map, take}
use Rattle.spiller.specs.Walks.{dead_at}
use Rattle.spiller.proofs.reaching.dead_starts.Given as goal

abbrev pub invariant-blocks-2 : goal.invariant-blocks-2
invariant-blocks-2 l = l.dead.items ≡ map (dead_at l.view.live.now.table l.view.v l.lane) (take l.block-index l.view.live.now.func.blocks)
