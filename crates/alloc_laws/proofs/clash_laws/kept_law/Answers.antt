use Rattle.alloc_laws.proofs.Clashes.Kept.{kept-law}
use Rattle.alloc_laws.proofs.clash_laws.kept_law.Goals as goal

pub returns : goal.returns
returns c = kept-law
