use Rattle.spill_laws.proofs.CopyPlaces.{copies_stand}
use Rattle.spill_laws.proofs.copies_stand_law.Goals as goal

pub returns : goal.returns
returns c = copies_stand
