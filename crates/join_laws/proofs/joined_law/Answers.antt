use Rattle.join_laws.proofs.Trying.{joined_refines}
use Rattle.join_laws.proofs.joined_law.Goals as goal

pub returns : goal.returns
returns c = joined_refines
