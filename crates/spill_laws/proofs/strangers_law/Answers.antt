use Rattle.spill_laws.proofs.Strangers.{strangers_pass}
use Rattle.spill_laws.proofs.strangers_law.Goals as goal

pub returns : goal.returns
returns c = strangers_pass
