use Rattle.join_laws.proofs.Plain.{lowered_has_plain_undefs}
use Rattle.join_laws.proofs.plain_law.Goals as goal

pub returns : goal.returns
returns c = lowered_has_plain_undefs
