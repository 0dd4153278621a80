use Rattle.edit_laws.proofs.Passing.{passing-law}
use Rattle.edit_laws.proofs.point_laws.passing_law.Goals as goal

pub returns : goal.returns
returns c = passing-law
