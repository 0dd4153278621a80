use Rattle.alloc_laws.proofs.Clashes.Facts.{clashes-law}
use Rattle.alloc_laws.proofs.clash_laws.clashes_law.Goals as goal

pub returns : goal.returns
returns c = clashes-law
