use Rattle.std.proofs.Common.{◌≤◌, length}
use Rattle.cut_place.specs.Flows.{HasEnds, HasSmallCapacities}
use Rattle.unit_tests.proofs.cuts.net_of.Given as goal

abbrev pub invariant-loop-row : goal.invariant-loop-row
invariant-loop-row l = (length l.arcs ≤ l.row-index) × HasEnds l.nodes l.arcs × HasSmallCapacities l.arcs
