use Rattle.spill_laws.proofs.Repeated.{repeats_keep_rules}
use Rattle.spill_laws.proofs.repeats_law.Goals as goal

pub returns : goal.returns
returns c = repeats_keep_rules
