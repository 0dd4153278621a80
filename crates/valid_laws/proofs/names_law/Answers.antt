use Rattle.valid_laws.proofs.Classes.{physical-names}
use Rattle.valid_laws.proofs.names_law.Goals as goal

pub returns : goal.returns
returns c = physical-names
