use Rattle.std.proofs.Common.{◌≡◌, drop}
use Rattle.std.specs.Prelude.{flat_map}
use Rattle.std.specs.List.{list_all}
use Rattle.mir_meaning.specs.Rules.{named_blocks}
use Rattle.machine_verify.specs.Sets.{has}
use Rattle.machine_verify.proofs.blocks.named_are_there.Given as goal

abbrev pub invariant-loop-i : goal.invariant-loop-i
invariant-loop-i l = list_all (has l.numbers) (flat_map named_blocks l.instrs) ≡ list_all (has l.numbers) (flat_map named_blocks (drop l.i-index l.instrs))
