use Rattle.std.proofs.Common.{drop}
use Rattle.live_edits.specs.EditedRuns.{AreBelow}
use Rattle.live_edits.proofs.edits.are_below.Given as goal

abbrev pub invariant-notes : goal.invariant-notes
invariant-notes l = AreBelow l.count (drop l.notes-index l.all) → AreBelow l.count l.all
