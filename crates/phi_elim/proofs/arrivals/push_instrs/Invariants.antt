use Rattle.std.proofs.Common.{◌≡◌, ◌≤◌, ◌+◌, ◌*◌, ◌-◌, ◌^◌, ◌++◌, min, length, take, drop}
use Rattle.phi_elim.specs.Phis.{arrivals_of, arrivals_in, all_instrs, phi_count, all_in_place, arriving_at, lowered_blocks, incoming_class}
use Rattle.phi_elim.proofs.arrivals.push_instrs.Given as goal

abbrev pub invariant-each : goal.invariant-each
invariant-each l = (l.arrivals.items ++ arrivals_in l.target l.blocks l.to (drop l.i-index l.instrs) ≡ l.fn.arrivals.items ++ arrivals_in l.target l.blocks l.first l.instrs) × (l.to ≡ l.first + phi_count l.target (take l.i-index l.instrs)) × (l.to ≤ l.first + l.i-index)
