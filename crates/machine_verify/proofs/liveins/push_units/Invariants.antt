use Rattle.std.proofs.Common.{◌≡◌, ◌++◌, drop, map}
use Rattle.machine_verify.proofs.liveins.push_units.Given as goal

abbrev pub invariant-loop-u : goal.invariant-loop-u
invariant-loop-u l = l.out.items ++ map (λ u. u.0) (drop l.u-index l.us) ≡ l.initial.out.items ++ map (λ u. u.0) l.us
