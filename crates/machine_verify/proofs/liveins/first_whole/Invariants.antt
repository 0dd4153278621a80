use Rattle.std.proofs.Common.{◌≡◌, drop}
use Rattle.std.specs.Prelude.{find, filter}
use Rattle.std.specs.List.{list_all}
use Rattle.mir_meaning.specs.Valid.{holds_unit}
use Rattle.target_base.specs.Registers.{units_of}
use Rattle.machine_verify.specs.Liveins.{is_set}
use Rattle.machine_verify.proofs.liveins.first_whole.Given as goal

abbrev pub invariant-loop-r : goal.invariant-loop-r
invariant-loop-r l = find (λ r. list_all (λ w. is_set l.live w.0) (units_of l.target r)) (filter (holds_unit l.target l.u) l.rs) ≡ find (λ r. list_all (λ w. is_set l.live w.0) (units_of l.target r)) (filter (holds_unit l.target l.u) (drop l.r-index l.rs))
