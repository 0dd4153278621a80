use Rattle.edit_laws.proofs.LaneSteps.{merged-law}
use Rattle.edit_laws.proofs.rebuilt_laws.merged_law.Goals as goal

pub returns : goal.returns
returns c = merged-law
