use Rattle.ra_top.proofs.ReportLemmas.Summary.Summaries.{five_lines, is_summary}
use Rattle.ra_top.proofs.report.summary.ran.summary.Goals as goal

pub returns : goal.returns
returns c =
    is_summary _ _ _ _ c.size_of.result c.size_of-2.result c.in_ok-before.before c.in_ok-after.after _ c.in_ok-before.ensures c.in_ok-after.ensures c.size_of.ensures c.size_of-2.ensures
    (five_lines _ c.size_of.result c.size_of-2.result c.in_ok-before.before c.in_ok-after.after c.new-out.result c.put_seed.new.out c.put_source.new.out c.put_allocated.new.out c.put_run.new.out c.put_run-2.new.out
    c.new-out.ensures c.in_ok-put_seed.ensures c.in_ok-put_source.ensures c.in_ok-put_allocated.ensures c.in_ok-put_run.ensures c.in_ok-put_run-2.ensures)
