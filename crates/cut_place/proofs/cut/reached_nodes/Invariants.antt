use Rattle.std.proofs.Common.{◌≡◌, ℕ, ◌<◌, length}
use Rattle.cut_place.specs.Flows.{in_set}
use Rattle.cut_place.specs.Searches.{reached}
use Rattle.cut_place.proofs.cut.reached_nodes.Given as goal

abbrev pub invariant-loop-level : goal.invariant-loop-level
invariant-loop-level l =
    (length l.flags ≡ l.level-index) × ((v : ℕ) → v < l.level-index → in_set l.flags v ≡ reached l.levels v)
