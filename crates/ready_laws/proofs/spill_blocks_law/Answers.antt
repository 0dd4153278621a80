use Rattle.ready_laws.proofs.StepBlocks.{spill-keeps-blocks}
use Rattle.ready_laws.proofs.spill_blocks_law.Goals as goal

pub returns : goal.returns
returns c = spill-keeps-blocks
