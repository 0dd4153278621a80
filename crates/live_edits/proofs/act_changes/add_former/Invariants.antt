use Rattle.std.proofs.Common.{take}
use Rattle.live_edits.specs.ActChanges.{AddsFormer}
use Rattle.live_edits.proofs.act_changes.add_former.Given as goal

abbrev pub invariant-acts : goal.invariant-acts
invariant-acts l = AddsFormer (take l.act-index l.before) l.after l.fn.changed.items l.changed.items
