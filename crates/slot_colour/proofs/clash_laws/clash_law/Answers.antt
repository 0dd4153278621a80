use Rattle.slot_colour.proofs.Clashing.{clash-law}
use Rattle.slot_colour.proofs.clash_laws.clash_law.Goals as goal

pub returns : goal.returns
returns c = clash-law
