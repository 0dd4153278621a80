use Rattle.std.proofs.Common.{ℕ, ◌≤◌, length}
use Rattle.cut_place.specs.Flows.{HasEnds, HasSmallCapacities}
use Rattle.bench_programs.proofs.cuts.random_net.Given as goal

abbrev pub invariant-loop-number : goal.invariant-loop-number
invariant-loop-number l = HasEnds l.nodes l.list × HasSmallCapacities l.list × (length l.list ≤ l.number)
