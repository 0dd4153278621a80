use Rattle.spill_laws.proofs.Kept.{spill_keeps_block_rules}
use Rattle.spill_laws.proofs.blocks_law.Goals as goal

pub returns : goal.returns
returns c = spill_keeps_block_rules
