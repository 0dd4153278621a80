use Rattle.lowering_laws.proofs.ShapesBehind.{lowered_widths}
use Rattle.lowering_laws.proofs.widths_law.Goals as goal

pub returns : goal.returns
returns c = lowered_widths
