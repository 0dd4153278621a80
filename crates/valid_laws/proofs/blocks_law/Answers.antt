use Rattle.valid_laws.proofs.Blocks.{physical-blocks}
use Rattle.valid_laws.proofs.blocks_law.Goals as goal

pub returns : goal.returns
returns c = physical-blocks
