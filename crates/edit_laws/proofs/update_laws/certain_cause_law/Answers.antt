use Rattle.edit_laws.proofs.Rechecked.{certain-cause-law}
use Rattle.edit_laws.proofs.update_laws.certain_cause_law.Goals as goal

pub returns : goal.returns
returns c = certain-cause-law
