use Rattle.std.proofs.Common.{◌≡◌, ◌≤◌, ◌+◌, ◌*◌, ◌-◌, ◌^◌, ◌++◌, min, length, take, drop}
use Rattle.phi_elim.specs.Phis.{arrivals_of, arrivals_in, all_instrs, phi_count, all_in_place, arriving_at, lowered_blocks, incoming_class}
use Rattle.phi_elim.proofs.blocks.put_arriving.Given as goal

abbrev pub invariant-each : goal.invariant-each
invariant-each l = l.instrs ≡ take l.at l.fn.instrs ++ (arriving_at (take l.a-index l.arrivals) l.k ++ drop l.at l.fn.instrs)
