use Rattle.point_laws.proofs.Covered.{covered-law}
use Rattle.point_laws.proofs.extent_laws.covered_law.Goals as goal

pub returns : goal.returns
returns c = covered-law
