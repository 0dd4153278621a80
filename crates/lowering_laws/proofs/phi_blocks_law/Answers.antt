use Rattle.lowering_laws.proofs.PhiBlocks.{phis_keep_block_rules}
use Rattle.lowering_laws.proofs.phi_blocks_law.Goals as goal

pub returns : goal.returns
returns c = phis_keep_block_rules
