use Rattle.std.proofs.Common.{arith}
use Rattle.rewriter.proofs.Physicals.{instr_more}
use Rattle.rewriter.proofs.operands.physical_instrs.Goals as goal

pub each-preserved : goal.each-preserved
each-preserved c =
    instr_more c.args.target.now c.args.registers.now c.each.i-index c.args.instrs.now c.each.made.items c.push_unless_identity.new.out.items _ c.get-i.result.now c.in_ok-physical.physical (omega arith) (rw c.get-i.ensures c.i-item.is) c.in_ok-physical.ensures c.in_ok-push_unless_identity.ensures c.each.invariant
