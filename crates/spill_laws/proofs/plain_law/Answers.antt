use Rattle.spill_laws.proofs.InTurn.{form_has_plain_undefs}
use Rattle.spill_laws.proofs.plain_law.Goals as goal

pub returns : goal.returns
returns c = form_has_plain_undefs
