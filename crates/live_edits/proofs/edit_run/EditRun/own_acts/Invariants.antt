use Rattle.std.proofs.Common.{take}
use Rattle.live_edits.specs.Aside.{LeavesOut}
use Rattle.live_edits.proofs.edit_run.EditRun.own_acts.Given as goal

abbrev pub invariant-acts : goal.invariant-acts
invariant-acts l = LeavesOut l.self.aside.items (take l.act-index l.fn.acts.items) l.own.items
