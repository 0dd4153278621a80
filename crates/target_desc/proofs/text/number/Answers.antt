use Rattle.std.proofs.Common.{arith}
use Rattle.std.proofs.lemmas.Grind.{common_steps}
use Rattle.target_desc.proofs.Cut.{number_over}
use Rattle.target_desc.proofs.text.number.Goals as goal

pub returns-then-n-gt255 : goal.returns-then-n-gt255
returns-then-n-gt255 c =
    number_over c.args.word.now c.loop-b.n c.loop-b.b-index _ c.loop-b.invariant.same (omega arith) (grind (arith, common_steps)) c.if-n-gt255.true
