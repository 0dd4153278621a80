use Rattle.std.proofs.Common.{◌≡◌, ℕ, ◌≤◌, length}
use Rattle.cut_place.specs.Searches.{IsSearch, unreached}
use Rattle.cut_place.proofs.search.close.Given as goal

abbrev pub invariant-rounds : goal.invariant-rounds
invariant-rounds l =
    IsSearch l.arcs l.flow l.search.levels.items l.search.before.items l.search.queue.items
    × (length l.search.levels.items ≡ length l.initial.search.levels.items)

abbrev pub decreases-rounds : goal.decreases-rounds
decreases-rounds l = unreached l.search.levels.items
