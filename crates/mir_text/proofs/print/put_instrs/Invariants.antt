use Rattle.std.proofs.Common.{◌≡◌, ◌++◌, drop}
use Rattle.mir_text.specs.Print.{print_instrs, left_behind_instrs}
use Rattle.mir_text.proofs.print.put_instrs.Given as goal

-- what is written, and what is left to write, are the whole
abbrev pub invariant-loop-i : goal.invariant-loop-i
invariant-loop-i l = record {
  text : l.out ++ print_instrs l.target l.left (drop l.i-index l.instrs) ≡ l.fn.out ++ print_instrs l.target l.fn.left l.instrs;
  left : left_behind_instrs l.left (drop l.i-index l.instrs) ≡ left_behind_instrs l.fn.left l.instrs;
}
