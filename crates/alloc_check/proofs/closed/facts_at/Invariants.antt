use Rattle.std.proofs.Common.{◌≡◌, drop}
use Rattle.meaning.specs.Agree.{facts_at}
use Rattle.alloc_check.proofs.closed.facts_at.Given as goal

abbrev pub invariant-loop-b : goal.invariant-loop-b
invariant-loop-b l = facts_at (drop l.b-index l.b-items) l.n ≡ facts_at l.family l.n
