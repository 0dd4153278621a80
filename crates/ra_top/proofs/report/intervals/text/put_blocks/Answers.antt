use Rattle.std.proofs.Common.{◌∙◌, arith, refl, sym, get_or, append-nil}
use Rattle.ra_top.proofs.ReportLemmas.Intervals.BlockLines.{blocks_more, blocks_all}
use Rattle.ra_top.proofs.report.intervals.text.put_blocks.Goals as goal

pub layout-preserved : goal.layout-preserved
layout-preserved c =
    let e = rw (← c.index-blocks-k.is) at c.in_ok-put_block.ensures in
    blocks_more c.layout.k (get_or c.args.freqs.now c.layout.k 0) c.args.freqs.now c.layout.out _ c.args.blocks.now c.index-blocks-k.result (omega arith) (omega arith) refl c.index-blocks-k.is e ∙ c.layout.invariant

pub returns : goal.returns
returns c =
    let z = blocks_all c.layout.k c.args.freqs.now c.args.blocks.now (omega arith) in
    let i = rw z at c.layout.invariant in
    sym (append-nil c.layout.out) ∙ i
