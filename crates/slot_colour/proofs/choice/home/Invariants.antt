use Rattle.std.proofs.Common.{◌≡◌, drop}
use Rattle.std.specs.Prelude.{find}
use Rattle.live_lanes.specs.Looks.{InOrder}
use Rattle.slot_colour.specs.Clashes.{is_clash}
use Rattle.slot_colour.specs.Colouring.{may_join}
use Rattle.slot_colour.proofs.choice.home.Given as goal

abbrev pub invariant-slots : goal.invariant-slots
invariant-slots l = InOrder l.live.table → find (may_join (is_clash l.live.table) l.taken l.n l.text) (drop l.other-index l.taken) ≡ find (may_join (is_clash l.live.table) l.taken l.n l.text) l.taken
