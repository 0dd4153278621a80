use Rattle.std.proofs.Common.{◌≡◌, false, take}
use Rattle.std.specs.List.{list_any}
use Rattle.live_lanes.specs.Looks.{InOrder}
use Rattle.live_lanes.specs.Entered.{cells_of}
use Rattle.split_choose.specs.Blocks.{at_border}
use Rattle.split_choose.proofs.blocks.is_lane_at_border.Given as goal

abbrev pub invariant-cells : goal.invariant-cells
invariant-cells l = InOrder l.live.table → list_any (λ c. at_border l.live.table l.live.func.blocks l.v c.block) (take l.place (cells_of l.live.table.rows.rows.items l.lane)) ≡ false
