use Rattle.ra_top.proofs.ReportLemmas.Intervals.Numbers.{Numbered}
use Rattle.ra_top.proofs.report.intervals.numbers.starts_of.Given as goal

abbrev pub invariant-layout : goal.invariant-layout
invariant-layout l = Numbered l.blocks l.block-index l.starts.items l.next
