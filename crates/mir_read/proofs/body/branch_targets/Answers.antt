use Rattle.mir_read.proofs.Targets.{targets_go}
use Rattle.mir_read.proofs.body.branch_targets.Goals as goal

pub loop-i-preserved : goal.loop-i-preserved
loop-i-preserved c =
    targets_go c.args.target.now c.args.instrs.now c.loop-i.i-index c.loop-i.blocks c.loop-i.invariant c.get-i.result.now c.add_targets.new.blocks c.loop-i-test.true (rw c.get-i.ensures c.i-item.is) c.in_ok-add_targets.ensures.value c.in_ok-add_targets.ensures.few
