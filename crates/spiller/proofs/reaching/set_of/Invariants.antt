use Rattle.std.proofs.Common.{◌≡◌, ℕ, take}
use Rattle.spiller.specs.Walks.{lists}
use Rattle.spiller.proofs.reaching.set_of.Given as goal

abbrev pub invariant-readings : goal.invariant-readings
invariant-readings l = (k i : ℕ) → lists l.all.keys k i ≡ lists (take l.reading-index l.readings) k i
