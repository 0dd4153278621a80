use Rattle.valid_laws.proofs.Classes.{physical-widths}
use Rattle.valid_laws.proofs.widths_law.Goals as goal

pub returns : goal.returns
returns c = physical-widths
