use Rattle.std.proofs.Common.{◌≡◌, ◌≤◌, ◌+◌, ◌*◌, ◌-◌, ◌^◌, ◌++◌, min, length, take, drop}
use Rattle.phi_elim.specs.Phis.{arrivals_of, arrivals_in, all_instrs, phi_count, all_in_place, arriving_at, lowered_blocks, incoming_class}
use Rattle.phi_elim.specs.Numbered.{numbered, blocks_numbered, instr_count}
use Rattle.phi_elim.proofs.arrivals.all_arrivals.Given as goal

abbrev pub invariant-layout : goal.invariant-layout
invariant-layout l = (l.arrivals.items ++ arrivals_in l.target l.blocks l.to (all_instrs (drop l.b-index l.blocks)) ≡ arrivals_in l.target l.blocks l.first (all_instrs l.blocks)) × (l.to + instr_count (drop l.b-index l.blocks) ≤ l.first + instr_count l.blocks)
