use Rattle.laws.proofs.Steps.{law_of_steps}
use Rattle.laws.proofs.steps_law.Goals as goal

pub returns : goal.returns
returns c = law_of_steps
