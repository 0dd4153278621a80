use Rattle.lowering_laws.proofs.LoweredRules.{lowered_shapes}
use Rattle.lowering_laws.proofs.shaped_law.Goals as goal

pub returns : goal.returns
returns c = lowered_shapes
