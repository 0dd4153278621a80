use Rattle.valid_laws.proofs.Classes.{physical-classes}
use Rattle.valid_laws.proofs.classes_law.Goals as goal

pub returns : goal.returns
returns c = physical-classes
