use Rattle.live_laws.proofs.Places.Stands.{stands-law}
use Rattle.live_laws.proofs.place_laws.stands_law.Goals as goal

pub returns : goal.returns
returns c = stands-law
