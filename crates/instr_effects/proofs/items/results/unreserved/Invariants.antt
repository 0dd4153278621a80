use Rattle.std.proofs.Common.{◌≡◌, ◌++◌, drop}
use Rattle.mir_meaning.specs.Items.{unreserved}
use Rattle.instr_effects.proofs.items.results.unreserved.Given as goal

abbrev pub invariant-loop-l : goal.invariant-loop-l
invariant-loop-l l = l.made ++ unreserved l.t (drop l.l-index l.lanes) ≡ unreserved l.t l.lanes
