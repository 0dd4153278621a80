use Rattle.std.proofs.Common.{◌<◌, ◌≤◌, length, arith}
use Rattle.std.proofs.lemmas.Result.{on_ok_weaker, on_err_weaker}
use Rattle.live_edits.specs.CellChanges.{seen_changed}
use Rattle.live_edits.proofs.ChangedRows.{still-descends, row-changes, not-past, row-back, row-fits}
use Rattle.live_edits.proofs.change.change_row_cell.Goals as goal

pub returns-then-place-len-clause-changed : goal.returns-then-place-len-clause-changed
returns-then-place-len-clause-changed c has =
    let cells = c.args.row.now.cells in
    let past : length cells.items ≤ c.place-place.result = omega (arith, cells.ok.0, c.len.ensures, c.if-place-len.true) in
    absurd (not-past c.args.block cells.items c.place-place.result c.args.row.now.sorted c.place-place.ensures.place past has)

pub returns-then-place-len-clause-back : goal.returns-then-place-len-clause-back
returns-then-place-len-clause-back c has =
    let cells = c.args.row.now.cells in
    let past : length cells.items ≤ c.place-place.result = omega (arith, cells.ok.0, c.len.ensures, c.if-place-len.true) in
    absurd (not-past c.args.block cells.items c.place-place.result c.args.row.now.sorted c.place-place.ensures.place past has)

pub invariant_of-row : goal.invariant_of-row
invariant_of-row c =
    let cells = c.args.row.now.cells in
    let within : c.place-place.result < length cells.items = omega (arith, cells.ok.0, c.len.ensures, c.if-place-len.false) in
    record { sorted = still-descends cells.items c.place-place.result c.index_mut.result.now c.change_cell.new.cell c.args.row.now.sorted within c.index_mut.ensures.value c.change_cell.ensures.block }

pub returns-clause-changed : goal.returns-clause-changed
returns-clause-changed c has =
    let cells = c.args.row.now.cells in
    on_ok_weaker c.change_cell.result (λ e. row-changes c.args.block cells.items c.place-place.result c.index_mut.result.now c.change_cell.new.cell (λ v. seen_changed c.args.change v) c.args.row.now.sorted c.place-place.ensures.place has c.index_mut.ensures.value c.change_cell.ensures.block c.change_cell.ensures.room e) c.change_cell.ensures.changed

pub returns-clause-failed : goal.returns-clause-failed
returns-clause-failed c has =
    let cells = c.args.row.now.cells in
    on_err_weaker c.change_cell.result (λ e. row-changes c.args.block cells.items c.place-place.result c.index_mut.result.now c.change_cell.new.cell (λ v. v) c.args.row.now.sorted c.place-place.ensures.place has c.index_mut.ensures.value c.change_cell.ensures.block c.change_cell.ensures.room e) c.change_cell.ensures.failed

pub returns-clause-back : goal.returns-clause-back
returns-clause-back c has =
    row-back c.args.block c.args.row.now.cells.items c.place-place.result c.index_mut.result.now c.args.row.now.sorted c.place-place.ensures.place has c.index_mut.ensures.value c.change_cell.new.cell c.change_cell.ensures.block c.change_cell.result c.change_cell.ensures.back c.change_cell.ensures.fits

pub returns-clause-succeeds : goal.returns-clause-succeeds
returns-clause-succeeds c has fits =
    c.change_cell.ensures.succeeds (row-fits c.args.block c.args.row.now.cells.items c.place-place.result c.index_mut.result.now c.args.row.now.sorted c.place-place.ensures.place has c.index_mut.ensures.value c.args.change fits)
