use Rattle.edit_laws.proofs.Runs.{runs-follow}
use Rattle.edit_laws.proofs.update_laws.runs_law.Goals as goal

pub returns : goal.returns
returns c = runs-follow
