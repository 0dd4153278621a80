use Rattle.std.proofs.Common.{◌≡◌, ◌≤◌, ◌+◌, ◌++◌, length, take, drop}
use Rattle.phi_elim.specs.Bulk.{operand_count}
use Rattle.phi_elim.specs.Numbered.{instr_count}
use Rattle.phi_elim.specs.Phis.{all_instrs}
use Rattle.two_address.specs.Lowered.{classes_made, blocks_lowered}
use Rattle.two_address.proofs.lower.lower_blocks.Given as goal

abbrev pub invariant-layout : goal.invariant-layout
invariant-layout l = (take l.k l.blocks ++ blocks_lowered l.target l.classes (length l.classes + length l.made.items) (drop l.k l.blocks) ≡ blocks_lowered l.target l.classes (length l.classes) l.fn.blocks) × (l.made.items ++ classes_made l.target l.classes (length l.classes + length l.made.items) (all_instrs (drop l.k l.blocks)) ≡ classes_made l.target l.classes (length l.classes) (all_instrs l.fn.blocks)) × (length l.made.items + instr_count (drop l.k l.blocks) + operand_count (all_instrs (drop l.k l.blocks)) ≤ instr_count l.fn.blocks + operand_count (all_instrs l.fn.blocks)) × (length l.blocks ≡ length l.fn.blocks)
