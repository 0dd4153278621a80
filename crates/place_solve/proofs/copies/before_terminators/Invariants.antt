use Rattle.std.proofs.Common.{◌≡◌, drop}
use Rattle.place_solve.specs.declared.position.PlacePosition.TheVariants as arounds
use Rattle.place_solve.proofs.Copying.{before_from}
use Rattle.place_solve.proofs.copies.before_terminators.Given as goal

abbrev pub invariant-each : goal.invariant-each
invariant-each l = before_from l.target l.at (drop l.i-index l.instrs) ≡ before_from l.target (arounds.Start l.number) l.instrs
