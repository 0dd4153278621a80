use Rattle.lowering_laws.proofs.TieBlocks.{lowered_keep_block_rules}
use Rattle.lowering_laws.proofs.blocks_law.Goals as goal

pub returns : goal.returns
returns c = lowered_keep_block_rules
