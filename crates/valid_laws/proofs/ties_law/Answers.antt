use Rattle.valid_laws.proofs.Ties.{physical-ties}
use Rattle.valid_laws.proofs.ties_law.Goals as goal

pub returns : goal.returns
returns c = physical-ties
