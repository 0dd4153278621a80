use Rattle.spill_laws.proofs.FixedUndefs.{spill_keeps_named}
use Rattle.spill_laws.proofs.named_law.Goals as goal

pub returns : goal.returns
returns c = spill_keeps_named
