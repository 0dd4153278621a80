use Rattle.std.proofs.Common.{ap, not}
use Rattle.mir_read.proofs.Found.{falls_go}
use Rattle.mir_read.proofs.body.falls_through.Goals as goal

pub loop-i-preserved : goal.loop-i-preserved
loop-i-preserved c =
    falls_go c.args.target.now c.args.instrs.now c.loop-i.i-index c.loop-i.falls c.loop-i.invariant c.get-i.result.now (not c.ends_control-falls.result) c.loop-i-test.true (rw c.get-i.ensures c.i-item.is) (ap not c.ends_control-falls.ensures)
