use Rattle.std.proofs.Common.{◌≤◌, List, length, subst, arith}
use Rattle.std.proofs.lemmas.List.{take_all}
use Rattle.live_edits.specs.declared.cells.CellNotes.{CellNotes}
use Rattle.live_edits.specs.Told.{HasWritten}
use Rattle.live_edits.proofs.ToldPieces.{all-written-more}
use Rattle.live_edits.proofs.changed.add_written.Goals as goal

pub cells-preserved : goal.cells-preserved
cells-preserved c =
    let adds = c.in_ok-add_begun.ensures in
    all-written-more c.args.all.now c.cells.cell-index c.cell-item.result c.cells.pieces.items c.add_begun.new.pieces.items c.cells-test.true c.cell-item.is c.cells.invariant adds.kept adds.written

pub returns : goal.returns
returns c =
    let all = c.args.all.now in
    let past : length all ≤ c.cells.cell-index = omega (arith, c.cells-test.false) in
    subst (λ (cs : List CellNotes). HasWritten cs c.cells.pieces.items) (take_all c.cells.cell-index all past) c.cells.invariant
