use Rattle.lowering_laws.proofs.TieClasses.{lowered_classes}
use Rattle.lowering_laws.proofs.classes_law.Goals as goal

pub returns : goal.returns
returns c = lowered_classes
