use Rattle.spill_laws.proofs.GonePlaces.{needless_stand}
use Rattle.spill_laws.proofs.needless_stand_law.Goals as goal

pub returns : goal.returns
returns c = needless_stand
