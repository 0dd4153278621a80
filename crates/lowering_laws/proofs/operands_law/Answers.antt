use Rattle.lowering_laws.proofs.ShapesBehind.{lowered_operands}
use Rattle.lowering_laws.proofs.operands_law.Goals as goal

pub returns : goal.returns
returns c = lowered_operands
