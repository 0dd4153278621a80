use Rattle.ready_laws.proofs.StepBlocks.{split-keeps-blocks}
use Rattle.ready_laws.proofs.split_blocks_law.Goals as goal

pub returns : goal.returns
returns c = split-keeps-blocks
