use Rattle.spill_laws.proofs.TinyForm.{tinies_keep_rules}
use Rattle.spill_laws.proofs.tinies_law.Goals as goal

pub returns : goal.returns
returns c = tinies_keep_rules
