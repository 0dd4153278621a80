use Rattle.split_laws.proofs.Splitting.{split_refines}
use Rattle.split_laws.proofs.split_law.Goals as goal

pub returns : goal.returns
returns c = split_refines
