use Rattle.std.proofs.Common.{◌≡◌, ◌++◌, map, take, drop}
use Rattle.slot_colour.specs.Colouring.{renamed}
use Rattle.slot_colour.proofs.renamed.rename_operands.Given as goal

abbrev pub invariant-operands : goal.invariant-operands
invariant-operands l = l.operands ≡ map (renamed l.taken) (take l.k l.fn.operands) ++ drop l.k l.fn.operands
