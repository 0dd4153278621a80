use Rattle.lowering_laws.proofs.ShapesBehind.{lowered_definitions}
use Rattle.lowering_laws.proofs.definitions_law.Goals as goal

pub returns : goal.returns
returns c = lowered_definitions
