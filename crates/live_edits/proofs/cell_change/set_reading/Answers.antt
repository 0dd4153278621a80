use Rattle.std.proofs.Common.{◌∙◌, sym, ap, arith}
use Rattle.std.proofs.lemmas.List.{length-map}
use Rattle.live_lanes.specs.Table.{seen_cell, begun, changed_at}
use Rattle.live_edits.specs.CellChanges.{reading_into}
use Rattle.live_edits.proofs.ReadingsChanged.{changed-past-readings, piece-changed, piece-undone}
use Rattle.live_edits.proofs.cell_change.set_reading.Goals as goal

pub returns-then-index-len-clause-changed : goal.returns-then-index-len-clause-changed
returns-then-index-len-clause-changed c = sym (changed-past-readings (changed_at c.args.at (reading_into c.args.into)) c.args.index (seen_cell c.args.cell.now) (omega (arith, length-map c.args.cell.now.segments.items begun)))

pub returns-then-index-len-clause-back : goal.returns-then-index-len-clause-back
returns-then-index-len-clause-back c = changed-past-readings (changed_at c.args.at (reading_into c.args.into)) c.args.index (seen_cell c.args.cell.now) (omega (arith, length-map c.args.cell.now.segments.items begun))

pub returns-clause-changed : goal.returns-clause-changed
returns-clause-changed c =
    let x = c.index_mut.result.now in
    piece-changed c.args.cell.now x (record x { piece = record x.piece { readings = c.set_at-old-2.new.readings } }) c.args.index (changed_at c.args.at (reading_into c.args.into)) c.if-index-eq0.false (omega arith) c.index_mut.ensures.value (ap (λ rs. record (begun x) { readings = rs }) c.set_at-old-2.ensures.set)

pub returns-clause-back : goal.returns-clause-back
returns-clause-back c =
    let x = c.index_mut.result.now in
    let old = changed_at c.args.at (reading_into c.set_at-old-2.result) in
    piece-undone c.args.cell.now x (record x { piece = record x.piece { readings = c.set_at-old-2.new.readings } }) c.args.index (changed_at c.args.at (reading_into c.args.into)) c.if-index-eq0.false (omega arith) c.index_mut.ensures.value old (ap (λ rs. record (begun x) { readings = rs }) c.set_at-old-2.ensures.set) (ap old (sym c.set_at-old-2.ensures.set) ∙ c.set_at-old-2.ensures.back)
