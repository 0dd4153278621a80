use Rattle.valid_laws.proofs.SpillFlags.{spill-keeps-flags}
use Rattle.valid_laws.proofs.spill_flags_law.Goals as goal

pub returns : goal.returns
returns c = spill-keeps-flags
