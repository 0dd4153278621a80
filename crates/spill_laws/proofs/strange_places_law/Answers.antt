use Rattle.spill_laws.proofs.StrangePlaces.{strange_places}
use Rattle.spill_laws.proofs.strange_places_law.Goals as goal

pub returns : goal.returns
returns c = strange_places
