use Rattle.std.proofs.Common.{◌≡◌, ◌++◌, drop}
use Rattle.mir_meaning.specs.Items.{kept}
use Rattle.instr_effects.proofs.items.results.push_kept.Given as goal

abbrev pub invariant-loop-w : goal.invariant-loop-w
invariant-loop-w l = l.out ++ kept l.t (drop l.w-index l.writes) ≡ l.initial.out ++ kept l.t l.writes
