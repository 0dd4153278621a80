use Rattle.std.proofs.Common.{◌≡◌, ℕ, length}
use Rattle.cut_place.specs.Searches.{IsSearch}
use Rattle.cut_place.proofs.search.visit.Given as goal

abbrev pub invariant-loop-place : goal.invariant-loop-place
invariant-loop-place l =
    IsSearch l.arcs l.flow l.search.levels.items l.search.before.items l.search.queue.items
    × (length l.search.levels.items ≡ length l.initial.search.levels.items)
