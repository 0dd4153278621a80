use Rattle.writable_laws.proofs.SpillChanges.{spill_stays_writable}
use Rattle.writable_laws.proofs.spill_law.Goals as goal

pub returns : goal.returns
returns c = spill_stays_writable
