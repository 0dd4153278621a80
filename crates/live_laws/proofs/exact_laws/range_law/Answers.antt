use Rattle.live_laws.proofs.Exact.Ranged.{range-law}
use Rattle.live_laws.proofs.exact_laws.range_law.Goals as goal

pub returns : goal.returns
returns c = range-law
