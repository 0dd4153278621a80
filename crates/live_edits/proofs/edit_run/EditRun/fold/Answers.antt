use Rattle.std.proofs.Common.{◌≡◌}
use Rattle.live_edits.specs.EditedRuns.{HasTable}
use Rattle.live_edits.specs.Folded.{MayFold, fold_edits}
use Rattle.live_edits.specs.Runs.{edits_of}
use Rattle.live_edits.proofs.DraftEdits.{any-err}
use Rattle.live_edits.proofs.JoiningRun.{order-there, may-begin, folds-all}
use Rattle.live_edits.proofs.edit_run.EditRun.fold.Goals as goal

pub returns-in_err-edit_all-clause-err : goal.returns-in_err-edit_all-clause-err
returns-in_err-edit_all-clause-err c =
    let t = c.args.target.now in
    let r = c.args.self.now in
    let j = c.args.join in
    let ids = c.args.touched.now in
    let es = edits_of c.in_ok-edits.edits.items in
    any-err c.from_residual-in_err-edit_all.result (MayFold t r j ids → HasTable t r.draft.func c.edit_all.new.self)
    (λ may. c.in_err-edit_all.ensures.err (may-begin t r j ids es may (c.in_ok-edits.ensures (order-there t r j ids may))))

pub returns-clause-ok : goal.returns-clause-ok
returns-clause-ok c = λ may.
    let t = c.args.target.now in
    let r = c.args.self.now in
    let j = c.args.join in
    let ids = c.args.touched.now in
    let es = edits_of c.in_ok-edits.edits.items in
    let same : es ≡ fold_edits t r.draft.func j ids = c.in_ok-edits.ensures (order-there t r j ids may) in
    folds-all t r c.edit_all.new.self c.narrow.new.self j ids es may same (c.in_ok-edit_all.ensures.ok (may-begin t r j ids es may same)) c.narrow.ensures
