use Rattle.alloc_laws.proofs.Clashes.Facts.{facts-law}
use Rattle.alloc_laws.proofs.clash_laws.facts_law.Goals as goal

pub returns : goal.returns
returns c = facts-law
