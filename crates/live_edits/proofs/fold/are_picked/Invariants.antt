use Rattle.std.proofs.Common.{◌≡◌, drop}
use Rattle.live_edits.specs.Folded.{are_picked}
use Rattle.live_edits.proofs.fold.are_picked.Given as goal

abbrev pub invariant-lanes : goal.invariant-lanes
invariant-lanes l = are_picked l.outer l.inner l.lanes ≡ are_picked l.outer (drop l.k l.inner) (drop l.k l.lanes)
