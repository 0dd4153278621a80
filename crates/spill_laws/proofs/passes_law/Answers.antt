use Rattle.spill_laws.proofs.Tinies.{passes_keep_rules}
use Rattle.spill_laws.proofs.passes_law.Goals as goal

pub returns : goal.returns
returns c = passes_keep_rules
