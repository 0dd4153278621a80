use Rattle.spill_laws.proofs.Readers.{loads_hold}
use Rattle.spill_laws.proofs.loads_law.Goals as goal

pub returns : goal.returns
returns c = loads_hold
