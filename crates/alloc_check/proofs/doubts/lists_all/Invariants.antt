use Rattle.std.proofs.Common.{◌≡◌, drop, map}
use Rattle.std.specs.List.{list_all}
use Rattle.mir_meaning.specs.Registers.{has_number}
use Rattle.mir_meaning.specs.Valid.{listed_units}
use Rattle.alloc_check.proofs.doubts.lists_all.Given as goal

abbrev pub invariant-loop-u : goal.invariant-loop-u
invariant-loop-u l = list_all (has_number (listed_units l.t l.b)) (map (λ u. u.0) (drop l.u-index l.units)) ≡ list_all (has_number (listed_units l.t l.b)) (map (λ u. u.0) l.units)
