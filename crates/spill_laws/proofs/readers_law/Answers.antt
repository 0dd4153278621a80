use Rattle.spill_laws.proofs.Readers.{readers_hold}
use Rattle.spill_laws.proofs.readers_law.Goals as goal

pub returns : goal.returns
returns c = readers_hold
