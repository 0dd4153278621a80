use Rattle.std.proofs.Common.{◌≡◌, ◌++◌, drop}
use Rattle.std.specs.Prelude.{filter}
use Rattle.mir_meaning.specs.Registers.{has_number}
use Rattle.mir_meaning.specs.Rules.{predecessors, block_numbers, successors_of}
use Rattle.machine_verify.proofs.blocks.predecessors.Given as goal

abbrev pub invariant-loop-b : goal.invariant-loop-b
invariant-loop-b l = l.made.items ++ block_numbers (filter (λ b. has_number (successors_of b) l.n) (drop l.b-index l.f.blocks)) ≡ predecessors l.f l.n
