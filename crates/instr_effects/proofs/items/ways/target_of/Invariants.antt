use Rattle.std.proofs.Common.{◌≡◌, drop}
use Rattle.mir_meaning.specs.Codes.{target_of}
use Rattle.instr_effects.proofs.items.ways.target_of.Given as goal

abbrev pub invariant-loop-o : goal.invariant-loop-o
invariant-loop-o l = target_of (drop l.o-index l.operands) ≡ target_of l.operands
