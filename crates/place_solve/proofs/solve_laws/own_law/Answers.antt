use Rattle.place_solve.proofs.Owns.{own-law}
use Rattle.place_solve.proofs.solve_laws.own_law.Goals as goal

pub returns : goal.returns
returns c = own-law
