use Rattle.std.proofs.Common.{◌++◌, take}
use Rattle.std.specs.Prelude.{flat_map}
use Rattle.live_lanes.specs.Lasting.{AllRise}
use Rattle.live_edits.specs.Leading.{AreAlike}
use Rattle.live_edits.specs.Pieces.{nodes_of}
use Rattle.live_edits.specs.Runs.{both_sides}
use Rattle.live_edits.proofs.edit_run.EditRun.add_suspects.Given as goal

abbrev pub invariant-notes : goal.invariant-notes
invariant-notes l = AllRise l.self.draft.order.slots l.self.rows.rows.rows.items
    → AreAlike (nodes_of l.spots.items) (nodes_of l.fn.spots.items ++ flat_map (both_sides l.self.draft.order.slots l.self.rows.rows.rows.items l.cell.lane l.cell.block) (take l.note-index l.cell.notes.items))
