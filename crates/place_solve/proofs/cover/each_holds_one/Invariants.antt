use Rattle.std.proofs.Common.{◌≡◌, drop}
use Rattle.std.specs.List.{list_all}
use Rattle.place_solve.specs.Choice.{holds_one}
use Rattle.place_solve.proofs.cover.each_holds_one.Given as goal

abbrev pub invariant-each : goal.invariant-each
invariant-each l = list_all (holds_one l.target l.units) (drop l.r-index l.regs) ≡ list_all (holds_one l.target l.units) l.regs
