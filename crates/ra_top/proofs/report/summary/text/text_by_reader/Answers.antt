use Rattle.std.proofs.Common.{refl, subst}
use Rattle.pipeline.specs.Guarded.Function.{IfRefused}
use Rattle.pipeline.proofs.GuardLemmas.Told.{part_of_none, part_of_run, on_err}
use Rattle.ra_top.proofs.report.summary.text.text_by_reader.Goals as goal

pub returns-in_err-copy-clause-part : goal.returns-in_err-copy-clause-part
returns-in_err-copy-clause-part g c = on_err c.from_residual.result (part_of_none (g.W.Watcher.next c.args.reader.now) c.args.watchers.now.items c.args.watchers.now.items refl)

-- the run had come to its end
pub returns-in_err-summary-in-Ok-clause-part : goal.returns-in_err-summary-in-Ok-clause-part
returns-in_err-summary-in-Ok-clause-part g c =
    on_err c.from_residual-in_err-summary-in-Ok.result (part_of_run (g.W.Watcher.next c.args.reader.now) 0 c.args.watchers.now.items c.allocate_function.new.watchers.items c.in-Ok.ensures.told)

pub returns-in-Err-clause-err : goal.returns-in-Err-clause-err
returns-in-Err-clause-err g c = subst (λ f. IfRefused c.args.reader.now f c.in-Err.stop) c.in_ok-copy.ensures c.in-Err.ensures.err
