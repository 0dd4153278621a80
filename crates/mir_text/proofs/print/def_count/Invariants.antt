use Rattle.std.proofs.Common.{◌≡◌, ◌+◌, drop}
use Rattle.mir_text.specs.Print.{def_count}
use Rattle.mir_text.proofs.print.def_count.Given as goal

abbrev pub invariant-loop-o : goal.invariant-loop-o
invariant-loop-o l = record {
  whole : l.count + def_count (drop l.o-index l.operands) ≡ def_count l.operands;
  passed : l.count ≡ l.o-index;
}
