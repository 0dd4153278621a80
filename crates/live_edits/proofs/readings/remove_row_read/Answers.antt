use Rattle.std.proofs.Common.{◌<◌, ◌≤◌, length, arith}
use Rattle.live_edits.specs.CellChanges.{reading_removed}
use Rattle.live_edits.proofs.ChangedRows.{still-descends, row-changes, not-past}
use Rattle.live_edits.proofs.readings.remove_row_read.Goals as goal

pub invariant_of-row : goal.invariant_of-row
invariant_of-row c =
    let cells = c.args.row.now.cells in
    let within : c.place_near-place.result < length cells.items = omega (arith, cells.ok.0, c.len.ensures, c.if-place-len.true) in
    record { sorted = still-descends cells.items c.place_near-place.result c.index_mut.result.now c.remove_reading.new.cell c.args.row.now.sorted within c.index_mut.ensures.value c.remove_reading.ensures.block }

pub returns-then-place-len : goal.returns-then-place-len
returns-then-place-len c has =
    let spot = c.args.spot in
    row-changes spot.block c.args.row.now.cells.items c.place_near-place.result c.index_mut.result.now c.remove_reading.new.cell (λ v. reading_removed spot.index c.args.at v) c.args.row.now.sorted c.place_near-place.ensures.place has c.index_mut.ensures.value c.remove_reading.ensures.block c.remove_reading.ensures.room c.remove_reading.ensures.removed

pub returns-else-place-len : goal.returns-else-place-len
returns-else-place-len c has =
    let cells = c.args.row.now.cells in
    let past : length cells.items ≤ c.place_near-place.result = omega (arith, cells.ok.0, c.len.ensures, c.if-place-len.false) in
    absurd (not-past c.args.spot.block cells.items c.place_near-place.result c.args.row.now.sorted c.place_near-place.ensures.place past has)
