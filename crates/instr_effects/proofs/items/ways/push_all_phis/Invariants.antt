use Rattle.std.proofs.Common.{◌≡◌, ◌++◌, drop}
use Rattle.mir_meaning.specs.Codes.{phis_written}
use Rattle.instr_effects.proofs.items.ways.push_all_phis.Given as goal

abbrev pub invariant-loop-k : goal.invariant-loop-k
invariant-loop-k l = l.out ≡ l.initial.out ++ phis_written l.t l.f l.n (drop l.k l.instrs)
