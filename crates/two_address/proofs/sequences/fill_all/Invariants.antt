use Rattle.std.proofs.Common.{◌≡◌, ◌-◌}
use Rattle.two_address.specs.Sequences.{filled_lanes}
use Rattle.std.specs.List.{list_all, range_with_len}
use Rattle.mir_meaning.specs.Registers.{has_number}
use Rattle.two_address.proofs.sequences.fill_all.Given as goal

abbrev pub invariant-lanes : goal.invariant-lanes
invariant-lanes l = list_all (has_number (filled_lanes l.target l.parts)) (range_with_len l.lane (l.lanes - l.lane)) ≡ list_all (has_number (filled_lanes l.target l.parts)) (range_with_len 0 l.lanes)
