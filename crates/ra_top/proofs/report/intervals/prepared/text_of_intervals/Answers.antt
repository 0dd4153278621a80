use Rattle.std.proofs.lemmas.Result.{IfOk-weaker}
use Rattle.ra_top.proofs.ReportLemmas.Intervals.Text.{ready-of, told-of}
use Rattle.ra_top.proofs.report.intervals.prepared.text_of_intervals.Goals as goal

pub text_of-requires : goal.text_of-requires
text_of-requires c = record { ready = ready-of c.args.target.now c.args.prepared.now c.requires; few = c.requires.few }

pub returns : goal.returns
returns c = IfOk-weaker c.text_of.result _ _ (λ text h. told-of c.args.target.now c.args.prepared.now c.requires c.args.name.now c.args.prepared.now.freqs text h) c.text_of.ensures
