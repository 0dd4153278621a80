use Rattle.spill_laws.proofs.Stays.{stays_keep_rules}
use Rattle.spill_laws.proofs.stays_law.Goals as goal

pub returns : goal.returns
returns c = stays_keep_rules
