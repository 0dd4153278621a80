use Rattle.edit_laws.proofs.LanesEdited.{lanes-edited-law}
use Rattle.edit_laws.proofs.rebuilt_laws.lanes_edited_law.Goals as goal

pub returns : goal.returns
returns c = lanes-edited-law
