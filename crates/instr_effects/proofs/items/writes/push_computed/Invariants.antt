use Rattle.std.proofs.Common.{◌≡◌, ◌+◌, ◌++◌, drop}
use Rattle.mir_meaning.specs.Items.{computed}
use Rattle.instr_effects.proofs.items.writes.push_computed.Given as goal

abbrev pub invariant-loop-l : goal.invariant-loop-l
invariant-loop-l l = record {
  written : l.out ++ computed l.early l.next (drop l.l-index l.lanes) ≡ l.initial.out ++ computed l.early l.first l.lanes;
  counted : l.next ≡ l.first + l.l-index;
}
