use Rattle.std.proofs.Common.{◌≡◌, map, take}
use Rattle.mir_meaning.specs.Renaming.{renamed_operand}
use Rattle.split_kit.specs.PartEdits.{as_range}
use Rattle.split_kit.proofs.part_edits.part_operands.Given as goal

abbrev pub invariant-operands : goal.invariant-operands
invariant-operands l = l.made ≡ map (renamed_operand (as_range l.v l.part)) (take l.operand-index l.operands)
