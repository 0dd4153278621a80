use Rattle.slot_laws.proofs.Coloured.{moving-keeps-valid}
use Rattle.slot_laws.proofs.valid_law.Goals as goal

pub returns : goal.returns
returns c = moving-keeps-valid
