use Rattle.spill_laws.proofs.Kept.{spill_keeps_classes}
use Rattle.spill_laws.proofs.classes_law.Goals as goal

pub returns : goal.returns
returns c = spill_keeps_classes
