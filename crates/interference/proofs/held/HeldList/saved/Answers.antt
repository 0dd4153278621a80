use Rattle.std.proofs.Common.{◌<◌, ◌∙◌, length, arith}
use Rattle.interference.proofs.Parts.{part-there}
use Rattle.interference.proofs.PutBack.{one-saved}
use Rattle.interference.proofs.held.HeldList.saved.Goals as goal

pub returns : goal.returns
returns c =
    let l = c.args.self.now in
    let lt : c.args.part < length l.parts.items = omega arith in
    one-saved l c.args.part c.in_ok-stretches.stretches c.args.all lt
    (c.in_ok-stretches.ensures.items ∙ c.as_slice.ensures.value ∙ part-there l.parts.items c.args.part c.index.result.now lt c.index.ensures) c.if-all.false
