use Rattle.std.proofs.Common.{◌∙◌, sym, ap, arith}
use Rattle.std.proofs.lemmas.List.{length-map}
use Rattle.std.proofs.lemmas.Result.{on_ok_weaker, on_err_weaker}
use Rattle.live_lanes.specs.Table.{seen_cell, begun}
use Rattle.live_edits.specs.CellChanges.{reading_put}
use Rattle.live_edits.proofs.ReadingsChanged.{changed-past-readings, piece-changed, own-readings}
use Rattle.live_edits.proofs.cell_change.put_reading.Goals as goal

pub returns-then-index-len-clause-put : goal.returns-then-index-len-clause-put
returns-then-index-len-clause-put c = sym (changed-past-readings (reading_put c.args.at c.args.reading) c.args.index (seen_cell c.args.cell.now) (omega (arith, length-map c.args.cell.now.segments.items begun)))

pub returns-clause-put : goal.returns-clause-put
returns-clause-put c =
    let x = c.index_mut.result.now in
    on_ok_weaker c.put_at-2.result (λ e. piece-changed c.args.cell.now x (record x { piece = record x.piece { readings = c.put_at-2.new.readings } }) c.args.index (reading_put c.args.at c.args.reading) c.if-index-eq0.false (omega arith) c.index_mut.ensures.value (ap (λ rs. record (begun x) { readings = rs }) e)) c.put_at-2.ensures.put

pub returns-clause-failed : goal.returns-clause-failed
returns-clause-failed c =
    let x = c.index_mut.result.now in
    on_err_weaker c.put_at-2.result (λ e. piece-changed c.args.cell.now x (record x { piece = record x.piece { readings = c.put_at-2.new.readings } }) c.args.index (λ rs. rs) c.if-index-eq0.false (omega arith) c.index_mut.ensures.value (ap (λ rs. record (begun x) { readings = rs }) e) ∙ own-readings (seen_cell c.args.cell.now) c.args.index) c.put_at-2.ensures.failed
