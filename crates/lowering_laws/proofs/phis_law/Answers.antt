use Rattle.lowering_laws.proofs.Sources.{lowered_phis_refine}
use Rattle.lowering_laws.proofs.phis_law.Goals as goal

pub returns : goal.returns
returns c = lowered_phis_refine
