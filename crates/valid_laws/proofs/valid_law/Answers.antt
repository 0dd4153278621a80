use Rattle.valid_laws.proofs.Validity.{rewrite-is-valid}
use Rattle.valid_laws.proofs.valid_law.Goals as goal

pub returns : goal.returns
returns c = rewrite-is-valid
