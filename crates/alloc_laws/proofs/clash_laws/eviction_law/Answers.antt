use Rattle.alloc_laws.proofs.Clashes.Choice.{eviction-law}
use Rattle.alloc_laws.proofs.clash_laws.eviction_law.Goals as goal

pub returns : goal.returns
returns c = eviction-law
