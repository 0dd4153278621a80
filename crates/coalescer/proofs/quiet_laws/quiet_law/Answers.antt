use Rattle.coalescer.proofs.QuietTold.{tells-quiet}
use Rattle.coalescer.proofs.quiet_laws.quiet_law.Goals as goal

pub returns : goal.returns
returns c = tells-quiet
