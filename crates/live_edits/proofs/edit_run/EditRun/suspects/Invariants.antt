use Rattle.std.proofs.Common.{take}
use Rattle.live_lanes.specs.Lasting.{AllRise}
use Rattle.live_edits.specs.Leading.{AreAlike}
use Rattle.live_edits.specs.Pieces.{nodes_of}
use Rattle.live_edits.specs.Runs.{all_sides}
use Rattle.live_edits.proofs.edit_run.EditRun.suspects.Given as goal

abbrev pub invariant-cells : goal.invariant-cells
invariant-cells l = AllRise l.self.draft.order.slots l.self.rows.rows.rows.items → AreAlike (nodes_of l.spots.items) (all_sides l.self.draft.order.slots l.self.rows.rows.rows.items (take l.cell-index l.all))
