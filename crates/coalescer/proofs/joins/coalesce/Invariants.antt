use Rattle.std.proofs.Common.{map, take}
use Rattle.join_laws.specs.Joined.{Tried}
use Rattle.coalescer.specs.Coalescing.{MayCoalesce}
use Rattle.coalescer.proofs.joins.coalesce.Given as goal

abbrev pub invariant-copies : goal.invariant-copies
invariant-copies l = MayCoalesce l.target l.fn.f → MayCoalesce l.target l.live × Tried l.target (map (λ c. c.1) (take l.copy-index l.copy-items)) l.fn.f.func l.joins l.live.func
