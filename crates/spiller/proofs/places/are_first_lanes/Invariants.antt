use Rattle.std.proofs.Common.{◌≡◌, length, drop}
use Rattle.target_base.specs.Storage.{same_numbers}
use Rattle.mir_meaning.specs.Registers.{numbers}
use Rattle.spiller.proofs.places.are_first_lanes.Given as goal

-- what is left decides
abbrev pub invariant-lanes : goal.invariant-lanes
invariant-lanes l = same_numbers (numbers 0 l.count) l.lanes ≡ same_numbers (numbers l.k (length (drop l.k l.lanes))) (drop l.k l.lanes)
