use Rattle.slot_laws.proofs.Refined.{moving-refines}
use Rattle.slot_laws.proofs.refines_law.Goals as goal

pub returns : goal.returns
returns c = moving-refines
