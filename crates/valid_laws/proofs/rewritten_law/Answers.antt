use Rattle.valid_laws.proofs.Validity.{rewritten-is-valid}
use Rattle.valid_laws.proofs.rewritten_law.Goals as goal

pub returns : goal.returns
returns c = rewritten-is-valid
