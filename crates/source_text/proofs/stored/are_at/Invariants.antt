use Rattle.std.proofs.Common.{◌≡◌, drop}
use Rattle.source_text.specs.Stored.{are_at}
use Rattle.source_text.proofs.stored.are_at.Given as goal

abbrev pub invariant-lanes : goal.invariant-lanes
invariant-lanes l = are_at l.target l.there (drop l.lane-index l.lanes) l.left ≡ are_at l.target l.there l.lanes l.units
