use Rattle.std.proofs.Common.{◌≡◌, ℕ, ◌≤◌, length}
use Rattle.cut_place.specs.Flows.{IsBalanced, IsWithin}
use Rattle.cut_place.specs.Links.{IsWalk}
use Rattle.cut_place.proofs.walk.blocking_flow.Given as goal

abbrev pub invariant-steps : goal.invariant-steps
invariant-steps l =
    IsWithin l.arcs l.flow × IsBalanced l.arcs l.flow l.value × (l.fn.value ≤ l.value)
    × IsWalk l.links.nodes l.walk.current.items (length l.walk.before.items) l.walk.stack.items l.walk.at
