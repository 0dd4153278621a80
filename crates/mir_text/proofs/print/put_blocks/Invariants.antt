use Rattle.std.proofs.Common.{◌≡◌, ◌++◌, drop}
use Rattle.mir_text.specs.Print.{print_blocks}
use Rattle.mir_text.proofs.print.put_blocks.Given as goal

-- what is written, and what is left to write, are the whole
abbrev pub invariant-loop-b : goal.invariant-loop-b
invariant-loop-b l = l.out ++ print_blocks l.target l.left (drop l.b-index l.blocks) ≡ l.fn.out ++ print_blocks l.target l.fn.left l.blocks
