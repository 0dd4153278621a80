use Rattle.std.proofs.Common.{◌≡◌, drop}
use Rattle.source_text.specs.Instructions.{keep_instrs}
use Rattle.source_text.proofs.instructions.keep_instrs.Given as goal

abbrev pub invariant-others : goal.invariant-others
invariant-others l = keep_instrs l.target l.left (drop l.x-index l.others) ≡ keep_instrs l.target l.instrs l.others
