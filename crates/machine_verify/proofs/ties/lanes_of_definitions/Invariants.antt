use Rattle.std.proofs.Common.{◌≡◌, ◌++◌, drop, map}
use Rattle.std.specs.Prelude.{filter}
use Rattle.mir_meaning.specs.Rules.{defined_lanes}
use Rattle.machine_verify.proofs.ties.lanes_of_definitions.Given as goal

abbrev pub invariant-loop-o : goal.invariant-loop-o
invariant-loop-o l = l.made.items ++ map (defined_lanes l.target l.f l.opaque) (filter (λ o. o.def) (drop l.o-index l.named)) ≡ map (defined_lanes l.target l.f l.opaque) (filter (λ o. o.def) l.named)
