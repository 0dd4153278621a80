use Rattle.std.proofs.Common.{◌<◌, ◌≤◌, ◌∙◌, length, vec_capacity, ap, arith}
use Rattle.live_lanes.specs.Table.{with_cause, with_end}
use Rattle.live_edits.proofs.ChangedRows.{still-descends, row-changes, not-past}
use Rattle.live_edits.proofs.change.give_row_life.Goals as goal

pub invariant_of-row : goal.invariant_of-row
invariant_of-row c =
    let cells = c.args.row.now.cells in
    let within : c.place_near-place.result < length cells.items = omega (arith, cells.ok.0, c.len.ensures, c.if-place-len.true) in
    record { sorted = still-descends cells.items c.place_near-place.result c.index_mut-cell.result.now c.set_end.new.self c.args.row.now.sorted within c.index_mut-cell.ensures.value (c.set_end.ensures.block ∙ c.set_cause.ensures.block) }

pub returns-then-place-len : goal.returns-then-place-len
returns-then-place-len c has =
    let spot = c.args.spot in
    let old = c.index_mut-cell.result.now in
    let new = c.set_end.new.self in
    let room : vec_capacity old.segments ≤ vec_capacity new.segments = omega (arith, c.set_cause.ensures.room, c.set_end.ensures.room) in
    row-changes spot.block c.args.row.now.cells.items c.place_near-place.result old new (λ v. with_end (with_cause v spot.index c.args.cause) spot.index c.args.end) c.args.row.now.sorted c.place_near-place.ensures.place has c.index_mut-cell.ensures.value (c.set_end.ensures.block ∙ c.set_cause.ensures.block) room
    (c.set_end.ensures.changed ∙ ap (λ v. with_end v spot.index c.args.end) c.set_cause.ensures.changed)

pub returns-else-place-len : goal.returns-else-place-len
returns-else-place-len c has =
    let cells = c.args.row.now.cells in
    let past : length cells.items ≤ c.place_near-place.result = omega (arith, cells.ok.0, c.len.ensures, c.if-place-len.false) in
    absurd (not-past c.args.spot.block cells.items c.place_near-place.result c.args.row.now.sorted c.place_near-place.ensures.place past has)
