use Rattle.lowering_laws.proofs.Both.{lowered_refine}
use Rattle.lowering_laws.proofs.lowered_law.Goals as goal

pub returns : goal.returns
returns c = lowered_refine
