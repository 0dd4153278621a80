use Rattle.std.proofs.Common.{[], arith}
use Rattle.live_edits.specs.Pieces.{nodes_of}
use Rattle.live_edits.specs.Runs.{cell_sides}
use Rattle.live_edits.proofs.AlikeLists.{alike-more}
use Rattle.live_edits.proofs.RunSides.{suspects-whole}
use Rattle.live_edits.proofs.edit_run.EditRun.suspects.Goals as goal

pub cells-preserved : goal.cells-preserved
cells-preserved c = λ rise.
    let slots = c.args.self.now.draft.order.slots in
    let rows = c.args.self.now.rows.rows.rows.items in
    alike-more (cell_sides slots rows) [] (nodes_of c.cells.spots.items) (nodes_of c.add_suspects.new.spots.items) c.args.all.now c.cells.cell-index c.cell-item.result _ (omega arith) c.cell-item.is (c.cells.invariant rise) (c.in_ok-add_suspects.ensures rise)

pub returns : goal.returns
returns c = λ rise. suspects-whole c.args.self.now.draft.order.slots c.args.self.now.rows.rows.rows.items c.args.all.now c.cells.cell-index c.cells.spots.items (omega arith) (c.cells.invariant rise)
