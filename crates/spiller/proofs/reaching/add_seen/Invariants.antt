use Rattle.std.proofs.Common.{◌≡◌, ◌++◌, map, drop}
use Rattle.spiller.specs.Walks.{reached_at, seen}
use Rattle.spiller.proofs.reaching.add_seen.Given as goal

-- those so far and those to come are all
abbrev pub invariant-touches : goal.invariant-touches
invariant-touches l = l.reached.items ++ map (reached_at l.lane) (seen (drop l.touch-index l.touches)) ≡ l.fn.reached.items ++ map (reached_at l.lane) (seen l.touches)
