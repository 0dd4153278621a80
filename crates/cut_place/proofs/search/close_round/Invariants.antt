use Rattle.std.proofs.Common.{◌≡◌, ℕ, ◌≤◌, length}
use Rattle.cut_place.proofs.Rounds.{RoundFacts}
use Rattle.cut_place.proofs.search.close_round.Given as goal

abbrev pub invariant-loop-arc : goal.invariant-loop-arc
invariant-loop-arc l =
    RoundFacts l.arcs l.flow l.initial.search.levels.items l.search.levels.items l.search.before.items l.search.queue.items l.changed l.arc
