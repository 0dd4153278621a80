use Rattle.std.proofs.Common.{arith}
use Rattle.target_base.specs.Numbers.{unit_number}
use Rattle.alloc_check.proofs.WrittenMarks.{above-more}
use Rattle.alloc_check.proofs.written.number_above.Goals as goal

pub loop-u-preserved : goal.loop-u-preserved
loop-u-preserved c =
    let above = c.greater-above in
    above-more c.args.units.now c.loop-u.u-index c.loop-u.above above.result (unit_number 0) (omega arith) above.ensures.first (omega (arith, above.ensures.second)) c.loop-u.invariant
