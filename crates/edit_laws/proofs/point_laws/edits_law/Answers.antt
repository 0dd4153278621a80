use Rattle.edit_laws.proofs.Edited.{edits-law}
use Rattle.edit_laws.proofs.point_laws.edits_law.Goals as goal

pub returns : goal.returns
returns c = edits-law
