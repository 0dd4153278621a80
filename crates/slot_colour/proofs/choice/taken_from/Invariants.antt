use Rattle.std.proofs.Common.{◌≡◌, [], drop}
use Rattle.live_lanes.specs.Looks.{InOrder}
use Rattle.slot_colour.specs.Clashes.{is_clash}
use Rattle.slot_colour.specs.Colouring.{taken_on}
use Rattle.slot_colour.proofs.choice.taken_from.Given as goal

abbrev pub invariant-slots : goal.invariant-slots
invariant-slots l = InOrder l.live.table → taken_on (is_clash l.live.table) l.declared l.taken.items (drop l.n-index l.slots) ≡ taken_on (is_clash l.live.table) l.declared [] l.slots
