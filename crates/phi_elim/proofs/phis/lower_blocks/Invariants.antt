use Rattle.std.proofs.Common.{◌≡◌, ◌≤◌, ◌+◌, ◌*◌, ◌-◌, ◌^◌, ◌++◌, min, length, take, drop}
use Rattle.phi_elim.specs.Phis.{arrivals_of, arrivals_in, all_instrs, phi_count, all_in_place, arriving_at, lowered_blocks, incoming_class}
use Rattle.phi_elim.specs.Numbered.{numbered, blocks_numbered, instr_count}
use Rattle.phi_elim.proofs.phis.lower_blocks.Given as goal

abbrev pub invariant-layout : goal.invariant-layout
invariant-layout l = (take l.k l.blocks ++ lowered_blocks l.target l.arrivals l.k l.c (drop l.k l.blocks) ≡ lowered_blocks l.target l.arrivals 0 l.first l.fn.blocks) × (l.c + instr_count (drop l.k l.blocks) ≤ l.first + instr_count l.fn.blocks) × (length l.blocks ≡ length l.fn.blocks)
