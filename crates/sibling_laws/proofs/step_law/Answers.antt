use Rattle.sibling_laws.proofs.Runs.{originals-step-is-slot-step}
use Rattle.sibling_laws.proofs.step_law.Goals as goal

pub returns : goal.returns
returns c = originals-step-is-slot-step
