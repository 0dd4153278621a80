use Rattle.std.proofs.Common.{◌≡◌, ℕ, ◌-◌, ◌^◌, ◌≤◌, length}
use Rattle.cut_place.specs.Flows.{IsBalanced, IsWithin}
use Rattle.cut_place.proofs.cut.least_cut.Given as goal

abbrev pub invariant-phases : goal.invariant-phases
invariant-phases l = IsWithin l.arcs l.flow.items × IsBalanced l.arcs l.flow.items l.value

abbrev pub decreases-phases : goal.decreases-phases
decreases-phases l = 2 ^ 126 - l.value
