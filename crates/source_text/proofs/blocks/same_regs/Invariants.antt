use Rattle.std.proofs.Common.{◌≡◌, drop}
use Rattle.mir_meaning.specs.Agreement.{all_alike}
use Rattle.source_text.specs.Blocks.{same_reg}
use Rattle.source_text.proofs.blocks.same_regs.Given as goal

abbrev pub invariant-regs : goal.invariant-regs
invariant-regs l = all_alike same_reg (drop l.r-index l.regs) l.left ≡ all_alike same_reg l.regs l.others
