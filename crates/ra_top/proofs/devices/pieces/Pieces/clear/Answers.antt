use Rattle.ra_top.proofs.DeviceLemmas.Steps.{scan_of_none}
use Rattle.ra_top.proofs.devices.pieces.Pieces.clear.Goals as goal

pub invariant_of-self : goal.invariant_of-self
invariant_of-self c = scan_of_none _ _ c.clear.ensures.items c.new-self-inside.ensures
