use Rattle.std.proofs.Common.{◌<◌, List, length, arith, subst}
use Rattle.mir_meaning.specs.Paths.{Among}
use Rattle.interference.specs.declared.held.RangeExtent.{RangeExtent}
use Rattle.interference.proofs.PutBack.{among-part}
use Rattle.interference.proofs.held.HeldList.is_at.Goals as goal

pub returns : goal.returns
returns c = λ e.
    let vs = c.args.self.now.parts.items in
    let lt : c.args.gap.part < length vs = omega arith in
    among-part c.args.held vs c.args.gap.part c.index.result.now lt c.index.ensures (subst (λ (xs : List RangeExtent). Among c.args.held xs) c.as_slice.ensures.value (c.is_last_of.ensures e))
