use Rattle.instr_effects.specs.Numbered.{number_in}
use Rattle.live_edits.proofs.RunLanes.{acts-at}
use Rattle.live_edits.proofs.edit_run.EditRun.acts_at.Goals as goal

pub returns-clause-told : goal.returns-clause-told
returns-clause-told c =
    acts-at c.args.target.now c.args.self.now.draft.func (number_in c.args.self.now.lanes) c.args.at.0 c.args.at.1 c.in-Some.instr.now c.in_ok-acts.acts.items c.in_ok-effects.field-0.reads.items c.in_ok-effects.field-0.writes.items
    c.in-Some.ensures c.in_ok-effects.ensures.reads c.in_ok-effects.ensures.writes c.in_ok-acts.ensures.told
