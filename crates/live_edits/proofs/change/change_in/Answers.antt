use Rattle.std.proofs.Common.{◌<◌, ◌≤◌, length, arith}
use Rattle.std.proofs.lemmas.Result.{on_ok_weaker, on_err_weaker}
use Rattle.live_edits.specs.CellChanges.{seen_changed}
use Rattle.live_edits.proofs.ChangedRows.{cell-changes, no-lane, cell-back, cell-has, cell-fits}
use Rattle.live_edits.proofs.change.change_in.Goals as goal

pub returns-then-lane-len-clause-changed : goal.returns-then-lane-len-clause-changed
returns-then-lane-len-clause-changed c has =
    let rows = c.args.rows.now.rows in
    let past : length rows.items ≤ c.args.lane = omega (arith, rows.ok.0, c.len.ensures, c.if-lane-len.true) in
    absurd (no-lane rows.items c.args.lane c.args.block past has)

pub returns-then-lane-len-clause-back : goal.returns-then-lane-len-clause-back
returns-then-lane-len-clause-back c has =
    let rows = c.args.rows.now.rows in
    let past : length rows.items ≤ c.args.lane = omega (arith, rows.ok.0, c.len.ensures, c.if-lane-len.true) in
    absurd (no-lane rows.items c.args.lane c.args.block past has)

pub returns-clause-changed : goal.returns-clause-changed
returns-clause-changed c has =
    let rows = c.args.rows.now.rows in
    let within : c.args.lane < length rows.items = omega (arith, rows.ok.0, c.len.ensures, c.if-lane-len.false) in
    let own = cell-has rows.items c.args.lane c.index_mut.result.now within c.index_mut.ensures.value c.args.block has in
    on_ok_weaker c.change_row_cell.result (λ r. cell-changes rows.items c.args.lane c.index_mut.result.now within c.index_mut.ensures.value c.change_row_cell.new.row c.args.block (λ v. seen_changed c.args.change v) (λ h. r) has) (c.change_row_cell.ensures.changed own)

pub returns-clause-failed : goal.returns-clause-failed
returns-clause-failed c has =
    let rows = c.args.rows.now.rows in
    let within : c.args.lane < length rows.items = omega (arith, rows.ok.0, c.len.ensures, c.if-lane-len.false) in
    let own = cell-has rows.items c.args.lane c.index_mut.result.now within c.index_mut.ensures.value c.args.block has in
    on_err_weaker c.change_row_cell.result (λ r. cell-changes rows.items c.args.lane c.index_mut.result.now within c.index_mut.ensures.value c.change_row_cell.new.row c.args.block (λ v. v) (λ h. r) has) (c.change_row_cell.ensures.failed own)

pub returns-clause-back : goal.returns-clause-back
returns-clause-back c has =
    let rows = c.args.rows.now.rows in
    let within : c.args.lane < length rows.items = omega (arith, rows.ok.0, c.len.ensures, c.if-lane-len.false) in
    let own = cell-has rows.items c.args.lane c.index_mut.result.now within c.index_mut.ensures.value c.args.block has in
    cell-back rows.items c.args.lane c.index_mut.result.now within c.index_mut.ensures.value c.change_row_cell.new.row c.args.block c.change_row_cell.result (c.change_row_cell.ensures.back own)

pub returns-clause-succeeds : goal.returns-clause-succeeds
returns-clause-succeeds c has fits =
    let rows = c.args.rows.now.rows in
    let within : c.args.lane < length rows.items = omega (arith, rows.ok.0, c.len.ensures, c.if-lane-len.false) in
    let own = cell-has rows.items c.args.lane c.index_mut.result.now within c.index_mut.ensures.value c.args.block has in
    c.change_row_cell.ensures.succeeds own (cell-fits rows.items c.args.lane c.index_mut.result.now within c.index_mut.ensures.value c.args.block c.args.change fits)
