use Rattle.edit_laws.proofs.Edited.{leading-law}
use Rattle.edit_laws.proofs.point_laws.leading_law.Goals as goal

pub returns : goal.returns
returns c = leading-law
