use Rattle.spill_laws.proofs.Copies.{copies_keep_rules}
use Rattle.spill_laws.proofs.copies_law.Goals as goal

pub returns : goal.returns
returns c = copies_keep_rules
