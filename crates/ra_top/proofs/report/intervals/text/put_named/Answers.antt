use Rattle.std.proofs.Common.{ap, ◌∙◌}
use Rattle.std.proofs.lemmas.Result.{on_ok_weaker}
use Rattle.mir_func.specs.Value.{Function}
use Rattle.mir_func.specs.Binding.{class_of}
use Rattle.ra_top.specs.Report.Intervals.Lines.{class_text}
use Rattle.ra_top.proofs.ReportLemmas.Intervals.Parts.{named-text}
use Rattle.ra_top.proofs.report.intervals.text.put_named.Goals as goal

pub returns : goal.returns
returns c =
    let a = c.args in
    let x = a.live.now.table in
    let f = a.live.now.func in
    let class = c.name_of_class-class.ensures ∙ ap (λ (g : Function). class_text a.target.now (class_of g a.v)) c.func.ensures in
    let points = c.points.ensures c.requires.ready.ordered c.requires.ready.ranked (c.requires.ready.few a.v) in
    on_ok_weaker c.put_lanes.result (λ e. named-text a.target.now x f a.v a.sum a.out.now c.put_range.new.out c.put_lanes.new.out c.name_of_class-class.result.now c.weight_of-weight.result c.points.result c.in_ok-put_range.ensures class c.weight_of-weight.ensures points e) c.put_lanes.ensures
