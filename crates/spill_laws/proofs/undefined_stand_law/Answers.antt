use Rattle.spill_laws.proofs.GonePlaces.{undefined_stand}
use Rattle.spill_laws.proofs.undefined_stand_law.Goals as goal

pub returns : goal.returns
returns c = undefined_stand
