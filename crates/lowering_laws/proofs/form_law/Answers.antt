use Rattle.lowering_laws.proofs.LoweredForm.{lowered_form}
use Rattle.lowering_laws.proofs.form_law.Goals as goal

pub returns : goal.returns
returns c = lowered_form
