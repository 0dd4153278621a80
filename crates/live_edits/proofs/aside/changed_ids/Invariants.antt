use Rattle.std.proofs.Common.{◌≡◌, ℕ, take}
use Rattle.mir_meaning.specs.Paths.{has}
use Rattle.live_edits.specs.Aside.{changed_ids}
use Rattle.live_edits.specs.Runs.{edits_of}
use Rattle.live_edits.proofs.aside.changed_ids.Given as goal

abbrev pub invariant-edits : goal.invariant-edits
invariant-edits l = (n : ℕ) → has n l.ids.keys ≡ has n (changed_ids (edits_of (take l.edit-index l.edits)))
