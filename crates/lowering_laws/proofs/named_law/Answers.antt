use Rattle.lowering_laws.proofs.NamedLowered.{lowered_touches_named}
use Rattle.lowering_laws.proofs.named_law.Goals as goal

pub returns : goal.returns
returns c = lowered_touches_named
