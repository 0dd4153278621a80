use Rattle.std.proofs.Common.{◌≡◌, ◌∙◌, ℕ}
use Rattle.live_lanes.specs.Entered.{rows_seen}
use Rattle.std.proofs.lemmas.Result.{IfOk-at_ok, IfErr-at_err}
use Rattle.live_edits.specs.EditedRuns.{MayBegin, HasTable, IsLoggedOf}
use Rattle.live_edits.specs.Runs.{edits_of}
use Rattle.live_edits.proofs.DraftEdits.{any-err}
use Rattle.live_edits.proofs.OrderKept.{begun-order}
use Rattle.live_edits.proofs.LiveRuns.{stays-edited, begun, back, told-live, ranges-live, extents-back}
use Rattle.live_edits.proofs.live.begin_edits.Goals as goal

pub returns-in-Ok-clause-ok : goal.returns-in-Ok-clause-ok
returns-in-Ok-clause-ok c =
    let t = c.get.result.now in
    let es = edits_of c.args.edits.items in
    let first = c.take_run-run.result in
    let last = c.begin_run-outcome.new.run in
    let done = IfOk-at_ok _ c.in-Ok.is c.begin_run-outcome.ensures.done in
    let logged = IfOk-at_ok (λ _. MayBegin t first es → IsLoggedOf t first last) c.in-Ok.is c.begin_run-outcome.ensures.logged in
    begun t es c.args.live.now c.give_back-logs.new.live first last (c.get.ensures ∙ c.take_run-run.ensures.target) c.take_run-run.ensures.run c.take_run-run.ensures.fresh c.give_back-logs.ensures.run _ c.give_back-logs.ensures.logs done logged

pub returns-in-Err-clause-err : goal.returns-in-Err-clause-err
returns-in-Err-clause-err c =
    let t = c.get.result.now in
    let es = edits_of c.args.edits.items in
    let first = c.take_run-run.result in
    let last = c.begin_run-outcome.new.run in
    let has = IfErr-at_err (λ _. MayBegin t first es → HasTable t first.draft.func last) c.in-Err.is c.begin_run-outcome.ensures.err in
    back t es c.args.live.now c.give_back-logs.new.live first last (c.get.ensures ∙ c.take_run-run.ensures.target) c.take_run-run.ensures.run c.take_run-run.ensures.fresh c.give_back-logs.ensures.run has

pub returns-in_err-spare-clause-err : goal.returns-in_err-spare-clause-err
returns-in_err-spare-clause-err c = any-err c.from_residual.result _ (stays-edited c.args.live.now (edits_of c.args.edits.items))

pub returns-in-Ok-clause-told : goal.returns-in-Ok-clause-told
returns-in-Ok-clause-told c =
    let t = c.get.result.now in
    let es = edits_of c.args.edits.items in
    let first = c.take_run-run.result in
    let last = c.begin_run-outcome.new.run in
    let told = IfOk-at_ok _ c.in-Ok.is c.begin_run-outcome.ensures.told in
    told-live t es c.args.live.now c.give_back-logs.new.live first last (c.get.ensures ∙ c.take_run-run.ensures.target) c.take_run-run.ensures.run c.take_run-run.ensures.fresh c.give_back-logs.ensures.run c.args.v c.in-Ok.made.1.items told

pub returns-in-Ok-clause-ranges : goal.returns-in-Ok-clause-ranges
returns-in-Ok-clause-ranges c =
    let t = c.get.result.now in
    let es = edits_of c.args.edits.items in
    let first = c.take_run-run.result in
    let last = c.begin_run-outcome.new.run in
    ranges-live t es c.args.live.now c.give_back-logs.new.live first last (c.get.ensures ∙ c.take_run-run.ensures.target) c.take_run-run.ensures.run c.take_run-run.ensures.fresh c.give_back-logs.ensures.run c.begin_run-outcome.ensures.ranges

pub returns-in-Err-clause-ranges : goal.returns-in-Err-clause-ranges
returns-in-Err-clause-ranges c =
    let t = c.get.result.now in
    let es = edits_of c.args.edits.items in
    let first = c.take_run-run.result in
    let last = c.begin_run-outcome.new.run in
    ranges-live t es c.args.live.now c.give_back-logs.new.live first last (c.get.ensures ∙ c.take_run-run.ensures.target) c.take_run-run.ensures.run c.take_run-run.ensures.fresh c.give_back-logs.ensures.run c.begin_run-outcome.ensures.ranges

pub returns-in-Err-clause-extents : goal.returns-in-Err-clause-extents
returns-in-Err-clause-extents c =
    let t = c.get.result.now in
    let es = edits_of c.args.edits.items in
    let first = c.take_run-run.result in
    let last = c.begin_run-outcome.new.run in
    let seen = IfErr-at_err (λ _. MayBegin t first es → (l b : ℕ) → rows_seen last.rows.rows.rows.items l b ≡ rows_seen first.rows.rows.rows.items l b) c.in-Err.is c.begin_run-outcome.ensures.seen in
    extents-back t es c.args.live.now c.give_back-logs.new.live first last (c.get.ensures ∙ c.take_run-run.ensures.target) c.take_run-run.ensures.run c.take_run-run.ensures.fresh c.give_back-logs.ensures.run seen

pub returns-in-Ok-clause-order : goal.returns-in-Ok-clause-order
returns-in-Ok-clause-order c = λ may.
    let t = c.get.result.now in
    let es = edits_of c.args.edits.items in
    let first = c.take_run-run.result in
    let last = c.begin_run-outcome.new.run in
    let done = IfOk-at_ok _ c.in-Ok.is c.begin_run-outcome.ensures.done in
    let logged = IfOk-at_ok (λ _. MayBegin t first es → IsLoggedOf t first last) c.in-Ok.is c.begin_run-outcome.ensures.logged in
    begun-order es c.args.live.now c.give_back-logs.new.live _ (begun t es c.args.live.now c.give_back-logs.new.live first last (c.get.ensures ∙ c.take_run-run.ensures.target) c.take_run-run.ensures.run c.take_run-run.ensures.fresh c.give_back-logs.ensures.run (record { logs = c.give_back-logs.result; erased = c.in-Ok.made.0; pieces = c.in-Ok.made.1 }) c.give_back-logs.ensures.logs done logged may)
