use Rattle.run_end_laws.proofs.Ends.{allocated-is-valid}
use Rattle.run_end_laws.proofs.valid_end_law.Goals as goal

pub returns : goal.returns
returns c = allocated-is-valid
