use Rattle.state_laws.proofs.Classes.{step-keeps-classes}
use Rattle.state_laws.proofs.passes.classes_law.Goals as goal

pub returns : goal.returns
returns c = step-keeps-classes
