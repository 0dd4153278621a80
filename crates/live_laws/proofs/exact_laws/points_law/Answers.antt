use Rattle.live_laws.proofs.Exact.Pointed.{points-law}
use Rattle.live_laws.proofs.exact_laws.points_law.Goals as goal

pub returns : goal.returns
returns c = points-law
