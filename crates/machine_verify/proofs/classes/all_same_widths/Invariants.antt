use Rattle.std.proofs.Common.{◌≡◌, drop}
use Rattle.std.specs.List.{list_all}
use Rattle.mir_func.specs.Binding.{registers}
use Rattle.mir_meaning.specs.Rules.{same_widths}
use Rattle.machine_verify.proofs.classes.all_same_widths.Given as goal

abbrev pub invariant-loop-o : goal.invariant-loop-o
invariant-loop-o l = list_all (same_widths l.target l.f l.d) (registers l.operands) ≡ list_all (same_widths l.target l.f l.d) (registers (drop l.o-index l.operands))
