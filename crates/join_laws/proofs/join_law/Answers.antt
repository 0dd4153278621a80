use Rattle.join_laws.proofs.Trying.{join_refines}
use Rattle.join_laws.proofs.join_law.Goals as goal

pub returns : goal.returns
returns c = join_refines
