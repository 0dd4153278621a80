use Rattle.valid_laws.proofs.JoinsKeep.{joined-keeps-blocks}
use Rattle.valid_laws.proofs.joined_law.Goals as goal

pub returns : goal.returns
returns c = joined-keeps-blocks
