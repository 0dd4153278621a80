use Rattle.std.proofs.Common.{◌++◌, ◌∙◌, ap, sym, refl, arith, append-nil}
use Rattle.ra_top.specs.Report.Intervals.Told.{unused, used_lines, uses_lines}
use Rattle.ra_top.proofs.ReportLemmas.Intervals.Rows.{row-more, drop-none}
use Rattle.ra_top.proofs.report.intervals.text.put_ranges.Goals as goal

pub list-preserved : goal.list-preserved
list-preserved c =
    let t = c.args.target.now in
    let x = c.args.live.now.table in
    let f = c.args.live.now.func in
    row-more (used_lines t x f) (uses_lines t x f) (λ k a rest. refl) c.list.v c.args.uses.now unused _ c.list.out c.put_used.new.out (omega arith) refl c.in_ok-put_used.ensures ∙ c.list.invariant

pub returns : goal.returns
returns c =
    let t = c.args.target.now in
    let x = c.args.live.now.table in
    let f = c.args.live.now.func in
    sym (append-nil c.list.out) ∙ sym (ap (λ us. c.list.out ++ uses_lines t x f c.list.v us) (drop-none c.list.v c.args.uses.now (omega arith))) ∙ c.list.invariant
