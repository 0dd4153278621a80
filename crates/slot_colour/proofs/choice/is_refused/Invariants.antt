use Rattle.std.proofs.Common.{◌≡◌, drop}
use Rattle.std.specs.List.{list_any}
use Rattle.live_lanes.specs.Looks.{InOrder}
use Rattle.slot_colour.specs.Clashes.{is_clash}
use Rattle.slot_colour.specs.Colouring.{refuses}
use Rattle.slot_colour.proofs.choice.is_refused.Given as goal

abbrev pub invariant-slots : goal.invariant-slots
invariant-slots l = InOrder l.live.table → list_any (refuses (is_clash l.live.table) l.n l.kept) (drop l.r-index l.taken) ≡ list_any (refuses (is_clash l.live.table) l.n l.kept) l.taken
