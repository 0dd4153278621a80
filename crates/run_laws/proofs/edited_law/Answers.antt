use Rattle.run_laws.proofs.Asked.{in_run_may_be_edited}
use Rattle.run_laws.proofs.edited_law.Goals as goal

pub returns : goal.returns
returns c = in_run_may_be_edited
