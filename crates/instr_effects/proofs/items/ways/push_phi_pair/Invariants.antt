use Rattle.std.proofs.Common.{◌≡◌, length}
use Rattle.mir_meaning.specs.Codes.{phi_pair}
use Rattle.instr_effects.proofs.items.ways.push_phi_pair.Given as goal

abbrev pub invariant-loop-rest : goal.invariant-loop-rest
invariant-loop-rest l = (l.out ≡ l.initial.out) × (phi_pair l.t l.f l.n l.phi.result l.rest ≡ phi_pair l.t l.f l.n l.phi.result l.initial.rest)

abbrev pub decreases-loop-rest : goal.decreases-loop-rest
decreases-loop-rest l = length l.rest
