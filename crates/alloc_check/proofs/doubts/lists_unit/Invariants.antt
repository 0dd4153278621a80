use Rattle.std.proofs.Common.{◌≡◌, drop, map}
use Rattle.std.specs.Prelude.{flat_map}
use Rattle.target_base.specs.Registers.{units_of}
use Rattle.mir_meaning.specs.Registers.{has_number}
use Rattle.mir_meaning.specs.Valid.{listed_units}
use Rattle.alloc_check.proofs.doubts.lists_unit.Given as goal

abbrev pub invariant-loop-r : goal.invariant-loop-r
invariant-loop-r l = has_number (map (λ u. u.0) (flat_map (units_of l.t) (drop l.r-index l.b.liveins))) l.n ≡ has_number (listed_units l.t l.b) l.n
