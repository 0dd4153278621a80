use Rattle.std.proofs.Common.{◌≡◌, ℕ, ◌*◌, length}
use Rattle.cut_place.specs.Links.{HasLists}
use Rattle.cut_place.proofs.links.make_lists.Given as goal

abbrev pub invariant-loop-arc : goal.invariant-loop-arc
invariant-loop-arc l =
    HasLists l.lists.first.items l.lists.next.items × (length l.lists.first.items ≡ l.nodes) × (length l.lists.next.items ≡ 2 * l.arc-index)
