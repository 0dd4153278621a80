use Rattle.std.proofs.Common.{◌≡◌, length}
use Rattle.mir_meaning.specs.Codes.{falls_through}
use Rattle.instr_effects.proofs.items.ways.falls_through.Given as goal

abbrev pub invariant-loop-rest : goal.invariant-loop-rest
invariant-loop-rest l = falls_through l.t l.rest ≡ falls_through l.t l.initial.rest

abbrev pub decreases-loop-rest : goal.decreases-loop-rest
decreases-loop-rest l = length l.rest
