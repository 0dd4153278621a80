use Rattle.std.proofs.Common.{◌≡◌, drop}
use Rattle.std.specs.Prelude.{flat_map}
use Rattle.std.specs.List.{list_all}
use Rattle.mir_meaning.specs.Rules.{block_of}
use Rattle.machine_verify.specs.Sets.{has}
use Rattle.machine_verify.proofs.blocks.operands_are_there.Given as goal

abbrev pub invariant-loop-o : goal.invariant-loop-o
invariant-loop-o l = list_all (has l.numbers) (flat_map block_of l.operands) ≡ list_all (has l.numbers) (flat_map block_of (drop l.o-index l.operands))
