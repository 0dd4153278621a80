use Rattle.lowering_laws.proofs.Names.{lowered_names}
use Rattle.lowering_laws.proofs.names_law.Goals as goal

pub returns : goal.returns
returns c = lowered_names
