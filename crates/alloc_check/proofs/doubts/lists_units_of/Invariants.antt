use Rattle.std.proofs.Common.{◌≡◌, drop, map}
use Rattle.std.specs.Prelude.{flat_map}
use Rattle.std.specs.List.{list_all}
use Rattle.target_base.specs.Registers.{units_of}
use Rattle.mir_meaning.specs.Registers.{has_number}
use Rattle.mir_meaning.specs.Valid.{listed_units}
use Rattle.alloc_check.proofs.doubts.lists_units_of.Given as goal

abbrev pub invariant-loop-r : goal.invariant-loop-r
invariant-loop-r l = list_all (has_number (listed_units l.t l.c)) (map (λ u. u.0) (flat_map (units_of l.t) (drop l.r-index l.b.liveins))) ≡ list_all (has_number (listed_units l.t l.c)) (listed_units l.t l.b)
