use Rattle.valid_laws.proofs.Validity.{ready-stands}
use Rattle.valid_laws.proofs.stands_law.Goals as goal

pub returns : goal.returns
returns c = ready-stands
