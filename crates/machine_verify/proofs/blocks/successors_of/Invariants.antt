use Rattle.std.proofs.Common.{◌≡◌, ◌++◌, drop, map}
use Rattle.machine_verify.proofs.blocks.successors_of.Given as goal

abbrev pub invariant-loop-e : goal.invariant-loop-e
invariant-loop-e l = l.made.items ++ map (λ e. e.block) (drop l.e-index l.edges) ≡ map (λ e. e.block) l.edges
