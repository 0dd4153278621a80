use Rattle.std.proofs.Common.{◌≡◌, drop}
use Rattle.std.specs.Prelude.{find}
use Rattle.interference.specs.Clashes.{IsOrdered, is_free}
use Rattle.evictor.proofs.choice.first_free.Given as goal

abbrev pub invariant-candidates : goal.invariant-candidates
invariant-candidates l = IsOrdered l.fn.m → find (is_free l.fn.m l.fn.v) (drop l.r-index l.found) ≡ find (is_free l.fn.m l.fn.v) l.found
