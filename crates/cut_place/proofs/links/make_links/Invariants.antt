use Rattle.std.proofs.Common.{◌≡◌, ℕ, ◌<◌, ◌≤◌, length}
use Rattle.cut_place.specs.Links.{AreLinks}
use Rattle.cut_place.proofs.Adjacency.{AreWithin}
use Rattle.cut_place.proofs.links.make_links.Given as goal

abbrev pub invariant-loop-first : goal.invariant-loop-first
invariant-loop-first l =
    AreLinks l.nodes (length l.arcs) l.all.items × (length l.starts.items ≡ l.first-index) × AreWithin l.starts.items (length l.all.items)
