use Rattle.std.proofs.Common.{◌≡◌, false, drop}
use Rattle.interference.specs.Clashes.{is_taken}
use Rattle.interference.proofs.held.met_by.Given as goal

-- what is gone through is held by no other range
abbrev pub invariant-stretches : goal.invariant-stretches
invariant-stretches l = is_taken l.slots (drop l.k l.stretches) l.but l.at ≡ false
