use Rattle.place_solve.proofs.Lowered.{lowered-law}
use Rattle.place_solve.proofs.solve_laws.lowered_law.Goals as goal

pub returns : goal.returns
returns c = lowered-law
