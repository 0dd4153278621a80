use Rattle.std.proofs.Common.{◌≡◌, ℕ, ◌≤◌, length}
use Rattle.cut_place.specs.Searches.{IsSearch}
use Rattle.cut_place.proofs.search.spread.Given as goal

abbrev pub invariant-loop-i : goal.invariant-loop-i
invariant-loop-i l =
    IsSearch l.arcs l.flow l.search.levels.items l.search.before.items l.search.queue.items
    × (length l.search.levels.items ≡ length l.initial.search.levels.items)
