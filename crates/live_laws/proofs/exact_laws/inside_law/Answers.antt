use Rattle.live_laws.proofs.Exact.Inside.{inside-law}
use Rattle.live_laws.proofs.exact_laws.inside_law.Goals as goal

pub returns : goal.returns
returns c = inside-law
