use Rattle.run_laws.proofs.Asked.{in_run_is_editable}
use Rattle.run_laws.proofs.editable_law.Goals as goal

pub returns : goal.returns
returns c = in_run_is_editable
