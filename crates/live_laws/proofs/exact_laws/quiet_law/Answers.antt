use Rattle.live_laws.proofs.Exact.Quieter.{quiet-law}
use Rattle.live_laws.proofs.exact_laws.quiet_law.Goals as goal

pub returns : goal.returns
returns c = quiet-law
