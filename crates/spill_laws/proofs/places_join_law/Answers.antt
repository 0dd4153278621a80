use Rattle.spill_laws.proofs.Joined.{places_join}
use Rattle.spill_laws.proofs.places_join_law.Goals as goal

pub returns : goal.returns
returns c = places_join
