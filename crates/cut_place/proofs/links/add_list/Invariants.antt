use Rattle.std.proofs.Common.{◌≡◌, ℕ, ◌≤◌, length}
use Rattle.cut_place.specs.Links.{AreLinks}
use Rattle.cut_place.proofs.links.add_list.Given as goal

abbrev pub invariant-list : goal.invariant-list
invariant-list l =
    AreLinks (length l.lists.first.items) (length l.arcs) l.links.items × (length l.initial.links.items ≤ length l.links.items)
    × (l.number ≤ length l.lists.next.items)

abbrev pub decreases-list : goal.decreases-list
decreases-list l = l.number
