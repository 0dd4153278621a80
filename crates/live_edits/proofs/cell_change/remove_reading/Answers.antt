use Rattle.std.proofs.Common.{sym, ap, arith}
use Rattle.std.specs.List.{remove}
use Rattle.std.proofs.lemmas.List.{length-map}
use Rattle.live_lanes.specs.Table.{seen_cell, begun}
use Rattle.live_edits.proofs.ReadingsChanged.{changed-past-readings, piece-changed}
use Rattle.live_edits.proofs.cell_change.remove_reading.Goals as goal

pub returns-then-index-len-clause-removed : goal.returns-then-index-len-clause-removed
returns-then-index-len-clause-removed c = sym (changed-past-readings (λ rs. remove rs c.args.at) c.args.index (seen_cell c.args.cell.now) (omega (arith, length-map c.args.cell.now.segments.items begun)))

pub returns-clause-removed : goal.returns-clause-removed
returns-clause-removed c =
    let x = c.index_mut.result.now in
    piece-changed c.args.cell.now x (record x { piece = record x.piece { readings = c.remove_at-2.new.readings } }) c.args.index (λ rs. remove rs c.args.at) c.if-index-eq0.false (omega arith) c.index_mut.ensures.value (ap (λ rs. record (begun x) { readings = rs }) c.remove_at-2.ensures)
