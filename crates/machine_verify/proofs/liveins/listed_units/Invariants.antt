use Rattle.std.proofs.Common.{◌≡◌, ◌++◌, drop, map}
use Rattle.std.specs.Prelude.{flat_map}
use Rattle.target_base.specs.Registers.{units_of}
use Rattle.machine_verify.proofs.liveins.listed_units.Given as goal

abbrev pub invariant-loop-r : goal.invariant-loop-r
invariant-loop-r l = l.made.items ++ map (λ u. u.0) (flat_map (units_of l.target) (drop l.r-index l.liveins)) ≡ map (λ u. u.0) (flat_map (units_of l.target) l.liveins)
