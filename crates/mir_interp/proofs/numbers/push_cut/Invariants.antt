use Rattle.std.proofs.Common.{◌≡◌, ◌++◌, drop}
use Rattle.meaning.specs.Perform.{cut}
use Rattle.mir_interp.proofs.numbers.push_cut.Given as goal

abbrev pub invariant-loop-w : goal.invariant-loop-w
invariant-loop-w l = l.out ++ cut (drop l.w-index l.widths) l.rest ≡ l.initial.out ++ cut l.widths l.n
