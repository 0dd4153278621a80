use Rattle.std.proofs.Common.{◌∙◌, sym, refl}
use Rattle.target_base.specs.Mini.{mini_target}
use Rattle.pipeline.proofs.GuardLemmas.Told.{part_of_none, on_err}
use Rattle.ra_top.proofs.ReportLemmas.Summary.Fitting.{generated_fits}
use Rattle.ra_top.proofs.ReportLemmas.Summary.Refused.{refuses}
use Rattle.ra_top.proofs.report.summary.text.text_of_gen.Goals as goal

pub text_of-requires : goal.text_of-requires
text_of-requires g c = generated_fits c.in_ok-target.target c.args.seed c.in-Some.source (sym c.in_ok-source.ensures.value ∙ c.in-Some.is) (rw c.in-Some.is at c.in_ok-source.ensures.few)

pub returns-in_err-target-clause-part : goal.returns-in_err-target-clause-part
returns-in_err-target-clause-part g c = on_err c.from_residual.result (part_of_none (g.W.Watcher.next mini_target) c.args.watchers.now.items c.args.watchers.now.items refl)

pub returns-in_err-source-clause-part : goal.returns-in_err-source-clause-part
returns-in_err-source-clause-part g c = on_err c.from_residual-in_err-source.result (part_of_none (g.W.Watcher.next mini_target) c.args.watchers.now.items c.args.watchers.now.items refl)

pub returns-clause-part : goal.returns-clause-part
returns-clause-part g c = part_of_none (g.W.Watcher.next mini_target) c.args.watchers.now.items c.args.watchers.now.items refl

pub returns-in-Some-clause-err : goal.returns-in-Some-clause-err
returns-in-Some-clause-err g c = refuses c.args.seed c.in_ok-target.target c.in-Some.source c.text_of.result c.in_ok-target.ensures (sym c.in_ok-source.ensures.value ∙ c.in-Some.is) c.text_of.ensures.err
