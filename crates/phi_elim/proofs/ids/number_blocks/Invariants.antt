use Rattle.std.proofs.Common.{◌≡◌, ◌≤◌, ◌+◌, ◌*◌, ◌-◌, ◌^◌, ◌++◌, min, length, take, drop}
use Rattle.phi_elim.specs.Numbered.{numbered, blocks_numbered, instr_count}
use Rattle.phi_elim.proofs.ids.number_blocks.Given as goal

abbrev pub invariant-layout : goal.invariant-layout
invariant-layout l = (take l.k l.blocks ++ blocks_numbered l.next (drop l.k l.blocks) ≡ blocks_numbered 0 l.fn.blocks) × (l.next + instr_count (drop l.k l.blocks) ≡ instr_count l.fn.blocks) × (length l.blocks ≡ length l.fn.blocks)
