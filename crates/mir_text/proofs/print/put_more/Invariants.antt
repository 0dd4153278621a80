use Rattle.std.proofs.Common.{◌≡◌, ◌++◌, drop}
use Rattle.mir_func.specs.Binding.{explicit_roles}
use Rattle.mir_text.specs.Print.{print_more, left_behind_all}
use Rattle.mir_text.proofs.print.put_more.Given as goal

-- what is written, and what is left to write, are the whole
abbrev pub invariant-loop-o : goal.invariant-loop-o
invariant-loop-o l = record {
  text : l.out ++ print_more l.target l.left (explicit_roles l.rest) (drop l.o-index l.operands) ≡ l.fn.out ++ print_more l.target l.fn.left (explicit_roles l.roles) l.operands;
  left : left_behind_all l.left (drop l.o-index l.operands) ≡ left_behind_all l.fn.left l.operands;
}
