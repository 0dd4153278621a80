use Rattle.std.proofs.Common.{◌≡◌, drop, map}
use Rattle.std.specs.List.{list_all}
use Rattle.mir_meaning.specs.Registers.{has_number}
use Rattle.mir_meaning.specs.Rules.{successors_of}
use Rattle.alloc_check.proofs.doubts.has_successors.Given as goal

abbrev pub invariant-loop-e : goal.invariant-loop-e
invariant-loop-e l = list_all (has_number (successors_of l.c)) (map (λ e. e.block) (drop l.e-index l.b.successors)) ≡ list_all (has_number (successors_of l.c)) (successors_of l.b)
