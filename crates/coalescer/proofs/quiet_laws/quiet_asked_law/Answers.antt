use Rattle.coalescer.proofs.QuietAsked.{asked-instrs}
use Rattle.coalescer.proofs.quiet_laws.quiet_asked_law.Goals as goal

pub returns : goal.returns
returns c = asked-instrs
