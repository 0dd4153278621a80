use Rattle.std.proofs.Common.{◌≡◌, drop}
use Rattle.std.specs.List.{list_any}
use Rattle.mir_meaning.specs.Rules.{share_a_lane, clashing_lanes, readings_besides}
use Rattle.bound_operands.specs.Seen.{seen_all}
use Rattle.machine_verify.proofs.ties.are_read.Given as goal

abbrev pub invariant-loop-b : goal.invariant-loop-b
invariant-loop-b l = list_any (λ u. share_a_lane l.lanes (clashing_lanes l.target l.f u)) (readings_besides l.number (seen_all l.bound)) ≡ list_any (λ u. share_a_lane l.lanes (clashing_lanes l.target l.f u)) (readings_besides l.number (seen_all (drop l.b-index l.bound)))
