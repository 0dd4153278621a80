use Rattle.std.proofs.Common.{◌≡◌, ◌≤◌, ◌+◌, ◌*◌, ◌-◌, ◌^◌, ◌++◌, min, length, take, drop}
use Rattle.phi_elim.specs.Phis.{arrivals_of, arrivals_in, all_instrs, phi_count, all_in_place, arriving_at, lowered_blocks, incoming_class}
use Rattle.phi_elim.proofs.arrivals.push_inputs.Given as goal

abbrev pub invariant-pairs : goal.invariant-pairs
invariant-pairs l = l.arrivals.items ++ arrivals_of l.blocks l.to (drop (2 * l.k) l.inputs) ≡ l.fn.arrivals.items ++ arrivals_of l.blocks l.to l.inputs
