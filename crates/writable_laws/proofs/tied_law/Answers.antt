use Rattle.writable_laws.proofs.Lowered.{ties_stay_writable}
use Rattle.writable_laws.proofs.tied_law.Goals as goal

pub returns : goal.returns
returns c = ties_stay_writable
