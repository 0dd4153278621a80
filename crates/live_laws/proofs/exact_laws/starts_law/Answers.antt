use Rattle.live_laws.proofs.Exact.Starts.{starts-law}
use Rattle.live_laws.proofs.exact_laws.starts_law.Goals as goal

pub returns : goal.returns
returns c = starts-law
