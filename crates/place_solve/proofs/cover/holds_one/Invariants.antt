use Rattle.std.proofs.Common.{◌≡◌, drop}
use Rattle.std.specs.List.{list_any}
use Rattle.target_base.specs.Registers.{units_of}
use Rattle.target_base.specs.Storage.{is_among}
use Rattle.place_solve.proofs.cover.holds_one.Given as goal

abbrev pub invariant-each : goal.invariant-each
invariant-each l = list_any (is_among (units_of l.target l.r)) (drop l.u-index l.units) ≡ list_any (is_among (units_of l.target l.r)) l.units
