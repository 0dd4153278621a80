use Rattle.std.proofs.Common.{sym}
use Rattle.live_edits.specs.Drafts.{IsOrderOf}
use Rattle.live_edits.proofs.JoiningFound.{edit-none, edit-answer}
use Rattle.live_edits.proofs.edit_run.EditRun.edit_at.Goals as goal

pub returns-in_default : goal.returns-in_default
returns-in_default c = λ o. sym (edit-none c.args.target.now c.args.self.now.draft.func c.args.join c.args.id (c.in_default.ensures.place o))

pub returns-in-Some-instr_at : goal.returns-in-Some-instr_at
returns-in-Some-instr_at c =
    let f = c.args.self.now.draft.func in
    edit-answer c.args.target.now f c.args.join c.args.id c.in-Some.position c.in-Some.place c.in-Some-instr_at.instr.now (IsOrderOf f c.args.self.now.draft.order) c.fold_edit.result
    c.find.ensures.function c.in-Some-instr_at.ensures c.in-Some.ensures.place c.fold_edit.ensures
