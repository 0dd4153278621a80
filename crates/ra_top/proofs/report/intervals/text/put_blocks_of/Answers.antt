use Rattle.std.proofs.Common.{◌++◌, ◌∙◌, ap}
use Rattle.std.proofs.lemmas.Result.{on_ok_weaker}
use Rattle.mir_func.specs.Value.{Function}
use Rattle.ra_top.specs.Report.Intervals.Lines.{block_lines}
use Rattle.ra_top.proofs.report.intervals.text.put_blocks_of.Goals as goal

pub returns : goal.returns
returns c =
    let blocks = c.as_slice-blocks.ensures ∙ ap (λ (g : Function). g.blocks) c.f.view_is in
    on_ok_weaker c.put_blocks.result (λ e. e ∙ ap (λ bs. c.args.out.now ++ block_lines c.as_slice-freqs.result.now bs) blocks ∙ ap (λ fs. c.args.out.now ++ block_lines fs c.args.f.now.blocks) c.as_slice-freqs.ensures) c.put_blocks.ensures
