use Rattle.std.proofs.Common.{◌≡◌, drop}
use Rattle.mir_meaning.specs.Codes.{instrs_of}
use Rattle.instr_effects.proofs.items.ways.instrs_of.Given as goal

abbrev pub invariant-loop-b : goal.invariant-loop-b
invariant-loop-b l = instrs_of (drop l.b-index l.blocks) l.m ≡ instrs_of l.blocks l.m
