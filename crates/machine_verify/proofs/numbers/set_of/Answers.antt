use Rattle.std.proofs.Common.{arith, refl, get_or}
use Rattle.machine_verify.proofs.Listed.{holds_more}
use Rattle.machine_verify.proofs.numbers.set_of.Goals as goal

pub loop-n-preserved : goal.loop-n-preserved
loop-n-preserved c q =
    holds_more c.args.ns.now c.loop-n.n-index q (get_or c.args.ns.now c.loop-n.n-index 0) _ _ (omega arith) refl (c.in_ok-_is_new.ensures.ok q) (c.loop-n.invariant q)
