use Rattle.std.proofs.Common.{◌≡◌, ◌++◌, drop}
use Rattle.std.specs.Prelude.{flat_map}
use Rattle.mir_meaning.specs.Rules.{block_of}
use Rattle.machine_verify.proofs.blocks.push_named.Given as goal

abbrev pub invariant-loop-o : goal.invariant-loop-o
invariant-loop-o l = l.out.items ++ flat_map block_of (drop l.o-index l.operands) ≡ l.initial.out.items ++ flat_map block_of l.operands
