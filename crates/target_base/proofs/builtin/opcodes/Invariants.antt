use Rattle.std.proofs.Common.{◌≡◌, take, map}
use Rattle.target_base.specs.Tables.{opcode_row}
use Rattle.target_base.proofs.builtin.opcodes.Given as goal

abbrev pub invariant-loop-row : goal.invariant-loop-row
invariant-loop-row l = l.made ≡ map opcode_row (take l.row-index l.rows)
