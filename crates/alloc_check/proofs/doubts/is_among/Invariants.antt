use Rattle.std.proofs.Common.{◌≡◌, drop, map}
use Rattle.mir_meaning.specs.Registers.{has_number}
use Rattle.alloc_check.proofs.doubts.is_among.Given as goal

abbrev pub invariant-loop-u : goal.invariant-loop-u
invariant-loop-u l = has_number (map (λ u. u.0) (drop l.u-index l.units)) l.n ≡ has_number (map (λ u. u.0) l.units) l.n
