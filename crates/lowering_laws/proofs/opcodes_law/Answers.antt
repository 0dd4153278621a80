use Rattle.lowering_laws.proofs.TieBlocks.{lowered_opcodes}
use Rattle.lowering_laws.proofs.opcodes_law.Goals as goal

pub returns : goal.returns
returns c = lowered_opcodes
