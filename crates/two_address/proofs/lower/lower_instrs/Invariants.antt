use Rattle.std.proofs.Common.{◌≡◌, ◌≤◌, ◌+◌, ◌++◌, length, drop}
use Rattle.phi_elim.specs.Bulk.{operand_count}
use Rattle.two_address.specs.Lowered.{instrs_lowered, classes_made}
use Rattle.two_address.proofs.lower.lower_instrs.Given as goal

abbrev pub invariant-each : goal.invariant-each
invariant-each l = (l.out.items ++ instrs_lowered l.target l.classes (length l.classes + length l.made.items) (drop l.i-index l.instrs) ≡ instrs_lowered l.target l.classes (length l.classes + length l.fn.made.items) l.instrs) × (l.made.items ++ classes_made l.target l.classes (length l.classes + length l.made.items) (drop l.i-index l.instrs) ≡ l.fn.made.items ++ classes_made l.target l.classes (length l.classes + length l.fn.made.items) l.instrs) × (length l.made.items + operand_count (drop l.i-index l.instrs) ≤ length l.fn.made.items + l.i-index + operand_count l.instrs)
