use Rattle.spill_laws.proofs.RepeatPlaces.{repeats_stand}
use Rattle.spill_laws.proofs.repeats_stand_law.Goals as goal

pub returns : goal.returns
returns c = repeats_stand
