use Rattle.alloc_laws.proofs.Clashes.Choice.{basic-law}
use Rattle.alloc_laws.proofs.clash_laws.basic_law.Goals as goal

pub returns : goal.returns
returns c = basic-law
