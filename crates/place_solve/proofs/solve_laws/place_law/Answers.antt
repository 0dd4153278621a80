use Rattle.place_solve.proofs.Owned.{place-law}
use Rattle.place_solve.proofs.solve_laws.place_law.Goals as goal

pub returns : goal.returns
returns c = place-law
