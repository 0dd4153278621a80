use Rattle.std.proofs.Common.{◌≡◌, ◌++◌, drop}
use Rattle.ra_top.specs.Report.Intervals.Told.{uses_lines}
use Rattle.ra_top.proofs.report.intervals.text.put_ranges.Given as goal

abbrev pub invariant-list : goal.invariant-list
invariant-list l = l.out ++ uses_lines l.target l.live.table l.live.func l.v (drop l.v l.uses) ≡ l.fn.out ++ uses_lines l.target l.live.table l.live.func 0 l.uses
