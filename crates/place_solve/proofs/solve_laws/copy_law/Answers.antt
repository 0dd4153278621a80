use Rattle.place_solve.proofs.Told.{copy-law}
use Rattle.place_solve.proofs.solve_laws.copy_law.Goals as goal

pub returns : goal.returns
returns c = copy-law
