use Rattle.spill_laws.proofs.EffectPlaces.{spill_places_stand}
use Rattle.spill_laws.proofs.spill_places_law.Goals as goal

pub returns : goal.returns
returns c = spill_places_stand
