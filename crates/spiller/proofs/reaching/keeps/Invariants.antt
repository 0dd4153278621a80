use Rattle.std.proofs.Common.{◌≡◌, drop}
use Rattle.spiller.specs.Walks.{keeps}
use Rattle.spiller.proofs.reaching.keeps.Given as goal

-- what is left decides
abbrev pub invariant-touches : goal.invariant-touches
invariant-touches l = keeps l.touches ≡ keeps (drop l.touch-index l.touches)
