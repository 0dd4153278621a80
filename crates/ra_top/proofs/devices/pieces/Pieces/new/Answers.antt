use Rattle.ra_top.proofs.DeviceLemmas.Steps.{scan_of_none}
use Rattle.ra_top.proofs.devices.pieces.Pieces.new.Goals as goal

pub invariant_of-result : goal.invariant_of-result
invariant_of-result c = scan_of_none _ _ c.new.ensures.items c.new-2.ensures
