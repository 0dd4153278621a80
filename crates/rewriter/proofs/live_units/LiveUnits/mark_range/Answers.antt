use Rattle.std.proofs.Common.{arith, refl}
use Rattle.rewriter.proofs.Marked.{lanes_more, lanes_all}
use Rattle.rewriter.proofs.live_units.LiveUnits.mark_range.Goals as goal

pub lanes-init : goal.lanes-init
lanes-init c y m = m

pub lanes-preserved : goal.lanes-preserved
lanes-preserved c y m = c.lanes.invariant y (lanes_more c.args.live.now.table c.args.v c.lanes.k c.args.units.now _ _ _ _ y (omega arith) refl c.mark_held.ensures m)

pub returns : goal.returns
returns c = lanes_all c.args.live.now.table c.args.v c.lanes.k c.args.units.now _ _ (omega arith) c.lanes.invariant
