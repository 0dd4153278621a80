use Rattle.std.proofs.Common.{arith}
use Rattle.slot_colour.specs.Colouring.{renamed}
use Rattle.slot_colour.proofs.Renaming.{changed-more}
use Rattle.slot_colour.proofs.renamed.rename_operands.Goals as goal

pub operands-preserved : goal.operands-preserved
operands-preserved c =
    changed-more (renamed c.args.taken.now) c.args.operands.now c.operands.operands c.rename_operand.new.operands c.operands.k (omega arith) c.operands.invariant c.rename_operand.ensures
