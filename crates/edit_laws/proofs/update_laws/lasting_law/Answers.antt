use Rattle.edit_laws.proofs.Lasted.{lasting-law}
use Rattle.edit_laws.proofs.update_laws.lasting_law.Goals as goal

pub returns : goal.returns
returns c = lasting-law
