use Rattle.std.proofs.Common.{◌≤◌, length}
use Rattle.cut_place.specs.Flows.{HasEnds, HasSmallCapacities}
use Rattle.bench_programs.proofs.cuts.net_of.Given as goal

abbrev pub invariant-loop-word : goal.invariant-loop-word
invariant-loop-word l = (length l.list ≤ l.word-index) × HasEnds l.nodes l.list × HasSmallCapacities l.list
