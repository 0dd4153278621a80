use Rattle.spill_laws.proofs.WayLoads.{ways_load}
use Rattle.spill_laws.proofs.ways_law.Goals as goal

pub returns : goal.returns
returns c = ways_load
