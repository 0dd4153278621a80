use Rattle.std.proofs.Common.{◌≡◌, ◌++◌, map, drop}
use Rattle.alloc_check.specs.Compared.{both_way, both_ways}
use Rattle.alloc_check.proofs.rows.exits_of.Given as goal

abbrev pub invariant-loop-e : goal.invariant-loop-e
invariant-loop-e l = l.made ++ map (λ e. both_way l.t l.f l.g l.b.number e.block) (drop l.e-index l.b.successors) ≡ both_ways l.t l.f l.g l.b
