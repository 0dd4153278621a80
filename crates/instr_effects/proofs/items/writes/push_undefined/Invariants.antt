use Rattle.std.proofs.Common.{◌≡◌, ◌++◌, drop}
use Rattle.mir_meaning.specs.Items.{undefined}
use Rattle.instr_effects.proofs.items.writes.push_undefined.Given as goal

abbrev pub invariant-loop-l : goal.invariant-loop-l
invariant-loop-l l = l.out ++ undefined l.early (drop l.l-index l.lanes) ≡ l.initial.out ++ undefined l.early l.lanes
