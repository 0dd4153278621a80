use Rattle.std.proofs.Common.{arith, refl}
use Rattle.rewriter.proofs.HolderLists.{put_here, put_past}
use Rattle.rewriter.proofs.holders.push_holder.Goals as goal

pub returns-in_ok-push : goal.returns-in_ok-push
returns-in_ok-push c = put_here c.args.holders.now _ c.args.u.0 c.args.r c.get_mut.result.now c.push.new.self (omega arith) c.get_mut.ensures.value c.in_ok-push.ensures.ok refl

pub returns-else-u-len : goal.returns-else-u-len
returns-else-u-len c = put_past c.args.holders.now c.args.u.0 c.args.r (omega arith)
