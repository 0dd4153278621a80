use Rattle.std.proofs.Common.{◌∙◌, arith}
use Rattle.target_desc.specs.Ending.{belongs}
use Rattle.target_desc.proofs.Reserved.{unit_goes, unit_skips}
use Rattle.target_desc.proofs.read.reserved_units.Goals as goal
use Rattle.target_desc.proofs.read.reserved_units.Goals.{then-belongs+in_ok-push, else-belongs}

pub loop-u-preserved : goal.loop-u-preserved
loop-u-preserved c =
    let p = belongs c.args.regs.now c.args.rs.now in
    record {
      within = omega arith;
      same = c.loop-u.invariant.same ∙ elim c.if-belongs.branch [
        | then-belongs+in_ok-push w ↦ unit_goes p c.loop-u.made c.if-belongs.made c.loop-u.u c.args.count c.loop-u-test.true w.if-belongs.ensures (w.made-is ∙ w.in_ok-push.ensures.ok)
        | else-belongs w ↦ unit_skips p c.loop-u.made c.if-belongs.made c.loop-u.u c.args.count c.loop-u-test.true w.if-belongs.ensures w.made-is
      ];
    }
