use Rattle.std.proofs.Common.{◌≡◌, map, take}
use Rattle.mir_meaning.specs.Renaming.{renamed_operand}
use Rattle.live_edits.specs.Folded.{joined_operand}
use Rattle.live_edits.proofs.fold.join_operands.Given as goal

abbrev pub invariant-operands : goal.invariant-operands
invariant-operands l = l.made ≡ map (renamed_operand (joined_operand l.target l.join)) (take l.operand-index l.operands)
