use Rattle.sibling_laws.proofs.SpillSiblings.{spill-keeps-siblings}
use Rattle.sibling_laws.proofs.spill_law.Goals as goal

pub returns : goal.returns
returns c = spill-keeps-siblings
