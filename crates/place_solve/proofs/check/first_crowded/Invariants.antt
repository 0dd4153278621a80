use Rattle.place_solve.proofs.Crowds.{NoneBefore}
use Rattle.place_solve.proofs.check.first_crowded.Given as goal

abbrev pub invariant-counted : goal.invariant-counted
invariant-counted l = NoneBefore l.target l.f l.k
