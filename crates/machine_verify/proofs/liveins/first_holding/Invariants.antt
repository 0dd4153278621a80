use Rattle.std.proofs.Common.{◌≡◌, drop, true}
use Rattle.std.specs.Prelude.{find, filter}
use Rattle.mir_meaning.specs.Valid.{holds_unit}
use Rattle.machine_verify.proofs.liveins.first_holding.Given as goal

abbrev pub invariant-loop-r : goal.invariant-loop-r
invariant-loop-r l = find (λ r. true) (filter (holds_unit l.target l.u) l.rs) ≡ find (λ r. true) (filter (holds_unit l.target l.u) (drop l.r-index l.rs))
