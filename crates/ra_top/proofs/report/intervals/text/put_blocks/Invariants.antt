use Rattle.std.proofs.Common.{◌≡◌, ◌++◌, drop}
use Rattle.ra_top.specs.Report.Intervals.Lines.{block_lines}
use Rattle.ra_top.proofs.report.intervals.text.put_blocks.Given as goal

abbrev pub invariant-layout : goal.invariant-layout
invariant-layout l = l.out ++ block_lines (drop l.k l.freqs) (drop l.k l.blocks) ≡ l.fn.out ++ block_lines l.freqs l.blocks
