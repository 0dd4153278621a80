use Rattle.std.proofs.Common.{◌≡◌, drop, map}
use Rattle.mir_meaning.specs.Registers.{has_number}
use Rattle.machine_verify.proofs.blocks.has_successor.Given as goal

abbrev pub invariant-loop-e : goal.invariant-loop-e
invariant-loop-e l = has_number (map (λ e. e.block) l.edges) l.n ≡ has_number (map (λ e. e.block) (drop l.e-index l.edges)) l.n
