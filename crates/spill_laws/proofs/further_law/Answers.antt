use Rattle.spill_laws.proofs.FurtherClasses.{spill_gives_classes}
use Rattle.spill_laws.proofs.further_law.Goals as goal

pub returns : goal.returns
returns c = spill_gives_classes
