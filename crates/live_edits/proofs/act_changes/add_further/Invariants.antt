use Rattle.std.proofs.Common.{take}
use Rattle.live_edits.specs.ActChanges.{AddsFurther}
use Rattle.live_edits.proofs.act_changes.add_further.Given as goal

abbrev pub invariant-acts : goal.invariant-acts
invariant-acts l = AddsFurther l.before (take l.act-index l.after) l.fn.changed.items l.changed.items
