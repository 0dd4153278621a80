use Rattle.laws.proofs.Refines.{refines_trans}
use Rattle.laws.proofs.refinement_composes.Goals as goal

pub returns : goal.returns
returns c = refines_trans
