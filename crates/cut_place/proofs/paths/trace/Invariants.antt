use Rattle.std.proofs.Common.{◌≡◌, ℕ, ◌<◌, ◌≤◌, length, get_or}
use Rattle.cut_place.specs.Trails.{IsTrail, IsTree}
use Rattle.cut_place.proofs.Facts.{TraceFacts}
use Rattle.cut_place.proofs.paths.trace.Given as goal

abbrev pub invariant-back : goal.invariant-back
invariant-back l = TraceFacts l.arcs l.flow l.levels l.before l.amount l.steps.items l.at

abbrev pub decreases-back : goal.decreases-back
decreases-back l = get_or l.levels l.at 0
