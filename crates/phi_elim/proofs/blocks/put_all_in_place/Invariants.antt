use Rattle.std.proofs.Common.{◌≡◌, ◌≤◌, ◌+◌, ◌*◌, ◌-◌, ◌^◌, ◌++◌, min, length, take, drop}
use Rattle.phi_elim.specs.Phis.{arrivals_of, arrivals_in, all_instrs, phi_count, all_in_place, arriving_at, lowered_blocks, incoming_class}
use Rattle.phi_elim.proofs.blocks.put_all_in_place.Given as goal

abbrev pub invariant-each : goal.invariant-each
invariant-each l = (take l.k l.instrs ++ all_in_place l.target l.c (drop l.k l.instrs) ≡ all_in_place l.target l.first l.fn.instrs) × (l.c + phi_count l.target (drop l.k l.instrs) ≡ l.first + phi_count l.target l.fn.instrs) × (l.c ≤ l.first + l.k) × (length l.instrs ≡ length l.fn.instrs)
