use Rattle.std.proofs.Common.{◌≡◌, drop}
use Rattle.target_base.specs.Storage.{same_numbers, widths}
use Rattle.place_solve.proofs.widths.have_widths.Given as goal

abbrev pub invariant-each : goal.invariant-each
invariant-each l = same_numbers (widths l.target.units l.units) l.wanted ≡ same_numbers (widths l.target.units (drop l.k l.units)) (drop l.k l.wanted)
