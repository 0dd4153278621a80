use Rattle.laws.proofs.Agreement.{agreement_refines}
use Rattle.laws.proofs.agreement_law.Goals as goal

pub returns : goal.returns
returns c = agreement_refines
