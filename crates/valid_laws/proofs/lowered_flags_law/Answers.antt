use Rattle.valid_laws.proofs.LoweredFlags.{lowered-has-flags}
use Rattle.valid_laws.proofs.lowered_flags_law.Goals as goal

pub returns : goal.returns
returns c = lowered-has-flags
