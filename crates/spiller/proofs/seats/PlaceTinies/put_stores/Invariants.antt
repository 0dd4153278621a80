use Rattle.std.proofs.Common.{◌≡◌, flat_map, take}
use Rattle.live_lanes.specs.Looks.{InOrder}
use Rattle.spiller.specs.Views.{own_setting, planned}
use Rattle.spiller.specs.Additions.{put_into, with_addition}
use Rattle.spiller.specs.Seating.{stored_tiny}
use Rattle.spiller.proofs.seats.PlaceTinies.put_stores.Given as goal

-- the stores of the definitions so far
abbrev pub invariant-definitions : goal.invariant-definitions
invariant-definitions l = InOrder l.view.live.now.table → planned l.plan ≡ with_addition (put_into (own_setting l.view) l.gap (flat_map (stored_tiny (own_setting l.view)) (take l.tiny-index l.self.definitions.items))) (planned l.fn.plan)
