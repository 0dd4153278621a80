use Rattle.std.proofs.Common.{◌≡◌, ◌++◌, map, flat_map, take}
use Rattle.spiller.specs.Walks.{reached_at, seen, touches_at}
use Rattle.spiller.proofs.reaching.add_all_seen.Given as goal

abbrev pub invariant-blocks-2 : goal.invariant-blocks-2
invariant-blocks-2 l = l.reached.items ≡ l.fn.reached.items ++ map (reached_at l.flow.lane) (flat_map (λ q. seen (touches_at l.flow.blocks.items q)) (take l.at-index l.blocks))
