use Rattle.std.proofs.Common.{◌≡◌, take, map}
use Rattle.target_desc.specs.Drafts.{opcode_row}
use Rattle.target_desc.proofs.add.opcodes_of.Given as goal

abbrev pub invariant-loop-row : goal.invariant-loop-row
invariant-loop-row l = l.made ≡ map opcode_row (take l.row-index l.rows)
