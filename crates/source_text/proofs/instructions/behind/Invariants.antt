use Rattle.std.proofs.Common.{◌≡◌, drop}
use Rattle.source_text.specs.Instructions.{behind}
use Rattle.source_text.proofs.instructions.behind.Given as goal

abbrev pub invariant-instrs : goal.invariant-instrs
invariant-instrs l = behind l.target (drop l.k l.instrs) l.x ≡ behind l.target l.instrs l.x
