use Rattle.std.proofs.Common.{◌≡◌, take}
use Rattle.live_edits.specs.Drafts.{IsOrderOf}
use Rattle.live_edits.specs.Folded.{fold_edits}
use Rattle.live_edits.specs.Runs.{edits_of}
use Rattle.live_edits.proofs.edit_run.EditRun.fold_edits.Given as goal

abbrev pub invariant-touched : goal.invariant-touched
invariant-touched l = IsOrderOf l.self.draft.func l.self.draft.order → edits_of l.edits.items ≡ fold_edits l.target l.self.draft.func l.join (take l.id-index l.touched)
