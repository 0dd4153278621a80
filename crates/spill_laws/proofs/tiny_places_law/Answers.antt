use Rattle.spill_laws.proofs.TinyPlaces.{tiny_places_stand}
use Rattle.spill_laws.proofs.tiny_places_law.Goals as goal

pub returns : goal.returns
returns c = tiny_places_stand
