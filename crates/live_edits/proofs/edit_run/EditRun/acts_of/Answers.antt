use Rattle.instr_effects.specs.Numbered.{number_in}
use Rattle.std.proofs.lemmas.Result.{IfOk-weaker}
use Rattle.live_edits.proofs.RunLanes.{acts-of}
use Rattle.live_edits.proofs.edit_run.EditRun.acts_of.Goals as goal

pub returns-in-Some-clause-told : goal.returns-in-Some-clause-told
returns-in-Some-clause-told c =
    IfOk-weaker c.acts_at.result _ _
    (λ acts told order. acts-of c.args.target.now c.args.self.now.draft.func (number_in c.args.self.now.lanes) c.args.self.now.draft.order c.args.id c.in-Some.at.0 c.in-Some.at.1 acts.items c.find.ensures.function order (c.in-Some.ensures.place order) told)
    c.acts_at.ensures.told
