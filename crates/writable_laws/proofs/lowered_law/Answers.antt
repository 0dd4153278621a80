use Rattle.writable_laws.proofs.Lowered.{lowered_stays_writable}
use Rattle.writable_laws.proofs.lowered_law.Goals as goal

pub returns : goal.returns
returns c = lowered_stays_writable
