use Rattle.std.proofs.Common.{◌≡◌, length}
use Rattle.spiller.specs.Walks.{rest_behind}
use Rattle.spiller.proofs.reaching.rest_behind.Given as goal

abbrev pub invariant-touches : goal.invariant-touches
invariant-touches l = rest_behind l.id l.touches ≡ rest_behind l.id l.rest

abbrev pub decreases-touches : goal.decreases-touches
decreases-touches l = length l.rest
