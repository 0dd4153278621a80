use Rattle.live_lanes.specs.Table.{with_end}
use Rattle.live_edits.proofs.ChangedRows.{own-descends, own-changes, own-has, cell-changes}
use Rattle.live_edits.proofs.change.give_end_at.Goals as goal

pub invariant_of-row : goal.invariant_of-row
invariant_of-row c =
    let rows = c.args.rows.now.rows.items in
    let spot = c.args.spot in
    let row = c.index_mut-row in
    record { sorted = own-descends rows spot.lane row.result.now c.requires.lane row.ensures.value spot.block c.args.place c.requires.within c.requires.there c.index_mut.result.now c.set_end.new.self row.result.now.sorted c.index_mut.ensures.value c.set_end.ensures.block }

pub returns : goal.returns
returns c =
    let rows = c.args.rows.now.rows.items in
    let spot = c.args.spot in
    let row = c.index_mut-row in
    let set = c.set_end.ensures in
    cell-changes rows spot.lane row.result.now c.requires.lane row.ensures.value _ spot.block (λ v. with_end v spot.index c.args.end)
    (λ h. own-changes rows spot.lane row.result.now c.requires.lane row.ensures.value spot.block c.args.place c.requires.within c.requires.there c.index_mut.result.now c.set_end.new.self (λ v. with_end v spot.index c.args.end) row.result.now.sorted c.index_mut.ensures.value set.block set.room set.changed)
    (own-has rows spot.lane row.result.now c.requires.lane row.ensures.value spot.block c.args.place c.requires.within c.requires.there)
