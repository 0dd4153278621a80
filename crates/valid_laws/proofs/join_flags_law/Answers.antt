use Rattle.valid_laws.proofs.JoinsKeep.{join-keeps-flags}
use Rattle.valid_laws.proofs.join_flags_law.Goals as goal

pub returns : goal.returns
returns c = join-keeps-flags
