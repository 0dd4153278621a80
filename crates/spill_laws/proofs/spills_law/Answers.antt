use Rattle.spill_laws.proofs.InTurn.{lowered_spills_keep_form}
use Rattle.spill_laws.proofs.spills_law.Goals as goal

pub returns : goal.returns
returns c = lowered_spills_keep_form
