use Rattle.ra_top.proofs.ReportLemmas.Intervals.Parts.{whole-text}
use Rattle.ra_top.proofs.report.intervals.text.text_of.Goals as goal

pub returns : goal.returns
returns c =
    let a = c.args in
    whole-text a.target.now a.live.now.table a.live.now.func c.func-f.result.now a.name.now a.freqs.now c.in_ok-ranges.ranges c.as_slice.result.now c.new-out.result c.put_function.new.out c.put_blocks_of.new.out c.extend.new.self c.in_ok-ranges.ensures c.func-f.ensures c.as_slice.ensures c.new-out.ensures c.in_ok-put_function.ensures c.in_ok-put_blocks_of.ensures c.in_ok-extend.ensures.ok
