use Rattle.std.proofs.Common.{◌≡◌, ◌++◌, length}
use Rattle.mir_meaning.specs.Items.{parts}
use Rattle.instr_effects.proofs.items.silent.push_parts.Given as goal

abbrev pub invariant-loop-rest : goal.invariant-loop-rest
invariant-loop-rest l = l.out ++ parts l.t l.f l.d l.rest ≡ l.initial.out ++ parts l.t l.f l.d l.initial.rest

abbrev pub decreases-loop-rest : goal.decreases-loop-rest
decreases-loop-rest l = length l.rest
