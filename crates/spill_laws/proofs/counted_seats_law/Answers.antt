use Rattle.spill_laws.proofs.SeatedPlaces.{counted_seats_stand}
use Rattle.spill_laws.proofs.counted_seats_law.Goals as goal

pub returns : goal.returns
returns c = counted_seats_stand
