use Rattle.std.proofs.Common.{arith, ap, sym, ◌∙◌}
use Rattle.std.specs.Prelude.{sum}
use Rattle.mir_interp.proofs.Reading.{widths_past, widths_there}
use Rattle.mir_interp.proofs.perform.operand_bits.Goals as goal

pub returns-then-k-len : goal.returns-then-k-len
returns-then-k-len c = let e = widths_past c.args.r.now.widths c.args.k (omega arith) in (ap sum (sym e), omega arith)

pub returns : goal.returns
returns c =
    let e = widths_there c.args.r.now.widths c.args.k c.get.result.now (omega arith) in
    let w = c.in_ok-w.ensures in
    (w.0 ∙ ap sum (c.as_slice.ensures ∙ (c.get.ensures ∙ sym e)), w.1)
