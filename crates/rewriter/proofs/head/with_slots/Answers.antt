use Rattle.std.proofs.Common.{arith}
use Rattle.std.proofs.lemmas.Result.{IfOk-weaker}
use Rattle.rewriter.proofs.Heads.{head_of}
use Rattle.rewriter.proofs.head.with_slots.Goals as goal

pub returns : goal.returns
returns c =
    let made = rw c.as_slice.ensures at c.between_parts.ensures in
    IfOk-weaker c.between_parts.result _ _ (λ m e. head_of c.args.target.now c.args.slots.now c.args.head m (omega arith) e) made
