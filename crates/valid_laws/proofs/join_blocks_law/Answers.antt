use Rattle.valid_laws.proofs.JoinsKeep.{join-keeps-blocks}
use Rattle.valid_laws.proofs.join_blocks_law.Goals as goal

pub returns : goal.returns
returns c = join-keeps-blocks
