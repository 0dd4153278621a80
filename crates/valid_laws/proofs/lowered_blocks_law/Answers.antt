use Rattle.valid_laws.proofs.EndsKept.{lowered-has-blocks}
use Rattle.valid_laws.proofs.lowered_blocks_law.Goals as goal

pub returns : goal.returns
returns c = lowered-has-blocks
