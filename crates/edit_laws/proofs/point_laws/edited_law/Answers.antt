use Rattle.edit_laws.proofs.Edited.{edited-law}
use Rattle.edit_laws.proofs.point_laws.edited_law.Goals as goal

pub returns : goal.returns
returns c = edited-law
