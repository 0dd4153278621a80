use Rattle.std.proofs.Common.{◌∙◌, sym, ap, arith}
use Rattle.std.proofs.lemmas.List.{length-map}
use Rattle.live_lanes.specs.Table.{seen_cell, begun}
use Rattle.live_edits.specs.CellChanges.{with_readings}
use Rattle.live_edits.proofs.CellChanged.{put-readings, readings-back, readings-past}
use Rattle.live_edits.proofs.cell_change.change_readings.Goals as goal

pub returns-then-index-len-clause-changed : goal.returns-then-index-len-clause-changed
returns-then-index-len-clause-changed c = readings-past (seen_cell c.args.cell.now) c.args.index c.args.readings.items c.if-index-eq0.false (omega (arith, length-map c.args.cell.now.segments.items begun))

pub returns-then-index-len-clause-back : goal.returns-then-index-len-clause-back
returns-then-index-len-clause-back c = sym (readings-past (seen_cell c.args.cell.now) c.args.index c.args.readings.items c.if-index-eq0.false (omega (arith, length-map c.args.cell.now.segments.items begun)))

pub returns-clause-changed : goal.returns-clause-changed
returns-clause-changed c =
    let x = c.index_mut.result.now in
    put-readings c.args.cell.now x (record x { piece = record x.piece { readings = c.replace-old-2.new.dest } }) c.args.index c.args.readings.items c.if-index-eq0.false (omega arith) c.index_mut.ensures.value (ap (λ r. record (begun x) { readings = r.items }) c.replace-old-2.ensures.after)

pub returns-clause-back : goal.returns-clause-back
returns-clause-back c =
    let x = c.index_mut.result.now in
    let old = c.replace-old-2.result in
    ap (λ v. with_readings v c.args.index old.items) (put-readings c.args.cell.now x (record x { piece = record x.piece { readings = c.replace-old-2.new.dest } }) c.args.index c.args.readings.items c.if-index-eq0.false (omega arith) c.index_mut.ensures.value (ap (λ r. record (begun x) { readings = r.items }) c.replace-old-2.ensures.after))
    ∙ readings-back c.args.cell.now x x c.args.index c.args.readings.items old.items c.if-index-eq0.false (omega arith) c.index_mut.ensures.value (ap (λ r. r.items) c.replace-old-2.ensures.value)
