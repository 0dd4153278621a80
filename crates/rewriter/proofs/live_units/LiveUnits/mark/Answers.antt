use Rattle.std.proofs.Common.{arith, refl}
use Rattle.rewriter.proofs.Marked.{marked_here, marked_past}
use Rattle.rewriter.proofs.live_units.LiveUnits.mark.Goals as goal

pub returns-then-position-len : goal.returns-then-position-len
returns-then-position-len c = marked_here _ _ c.args.u.0 c.args.position c.get_mut.result.now c.set_flag.new.flags (omega arith) c.get_mut.ensures.value c.set_flag.ensures refl

pub returns-else-position-len : goal.returns-else-position-len
returns-else-position-len c = marked_past c.args.self.now c.args.u.0 c.args.position (omega arith)
