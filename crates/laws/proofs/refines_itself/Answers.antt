use Rattle.laws.proofs.Refines.{refines_refl}
use Rattle.laws.proofs.refines_itself.Goals as goal

pub returns : goal.returns
returns c = refines_refl
