use Rattle.std.proofs.Common.{◌∙◌}
use Rattle.std.proofs.lemmas.Result.{on_ok_weaker, on_err_weaker}
use Rattle.live_edits.proofs.DraftEdits.{any-err}
use Rattle.live_edits.proofs.LiveRuns.{stays-joined, joined-run, joined-back}
use Rattle.live_edits.proofs.live.fold.Goals as goal

pub returns-clause-ok : goal.returns-clause-ok
returns-clause-ok c =
    let same = c.get.ensures ∙ c.take_run-run.ensures.target in
    on_ok_weaker c.fold-outcome.result
    (joined-run c.get.result.now c.args.join c.args.touched.now c.args.live.now c.give_back.new.live c.take_run-run.result c.fold-outcome.new.self same c.take_run-run.ensures.run c.take_run-run.ensures.fresh c.give_back.ensures.run)
    c.fold-outcome.ensures.ok

pub returns-clause-err : goal.returns-clause-err
returns-clause-err c =
    let same = c.get.ensures ∙ c.take_run-run.ensures.target in
    on_err_weaker c.fold-outcome.result
    (joined-back c.get.result.now c.args.join c.args.touched.now c.args.live.now c.give_back.new.live c.take_run-run.result c.fold-outcome.new.self same c.take_run-run.ensures.run c.take_run-run.ensures.fresh c.give_back.ensures.run)
    c.fold-outcome.ensures.err

pub returns-in_err-spare-clause-err : goal.returns-in_err-spare-clause-err
returns-in_err-spare-clause-err c = any-err c.from_residual.result _ (stays-joined c.args.live.now c.args.join c.args.touched.now)
