use Rattle.std.proofs.Common.{◌≡◌, false, drop}
use Rattle.std.specs.List.{list_any}
use Rattle.interference.specs.Changes.{is_piece}
use Rattle.interference.proofs.held.seek.Given as goal

-- there is none in what is gone through
abbrev pub invariant-stretches : goal.invariant-stretches
invariant-stretches l = list_any (is_piece l.range l.start) (drop l.k l.stretches) ≡ false
