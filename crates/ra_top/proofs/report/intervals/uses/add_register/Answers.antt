use Rattle.ra_top.specs.Report.Intervals.Told.{with_register}
use Rattle.ra_top.proofs.ReportLemmas.Intervals.Uses.{added-each, unchanged-each, other-use}
use Rattle.ra_top.proofs.report.intervals.uses.add_register.Goals as goal

pub returns-else-place-uses-clause-each : goal.returns-else-place-uses-clause-each
returns-else-place-uses-clause-each c =
    unchanged-each (λ v. with_register c.args.freq v c.args.op) c.args.uses.now c.in-Virtual.v c.if-place-uses.false (λ w u apart. other-use c.args.freq c.in-Virtual.v w c.args.op u c.in-Virtual.is apart)

pub returns-then-place-uses-clause-each : goal.returns-then-place-uses-clause-each
returns-then-place-uses-clause-each c = added-each c.args.freq c.in-Virtual.v c.args.op c.args.uses.now c.counts.result c.one_more.result c.in-Virtual.is c.counts.ensures c.one_more.ensures
