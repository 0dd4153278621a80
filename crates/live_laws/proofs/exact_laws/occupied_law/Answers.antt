use Rattle.live_laws.proofs.Exact.Occupied.{occupied-law}
use Rattle.live_laws.proofs.exact_laws.occupied_law.Goals as goal

pub returns : goal.returns
returns c = occupied-law
