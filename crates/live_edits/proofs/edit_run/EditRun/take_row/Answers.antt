use Rattle.std.proofs.Common.{◌<◌, ◌++◌, ◌∷◌, ◌∙◌, [], length, length-set, refl, ap, arith}
use Rattle.live_lanes.specs.declared.row.LaneRange.{LaneRange}
use Rattle.live_lanes.specs.Table.{seen_in}
use Rattle.live_lanes.proofs.Rows.{row-of}
use Rattle.live_edits.specs.declared.aside.AsideRow.{AsideRow}
use Rattle.live_edits.proofs.AsideRows.{row-taken}
use Rattle.live_edits.proofs.edit_run.EditRun.take_row.Goals as goal

pub returns : goal.returns
returns c =
    let rows = c.args.self.now.rows.rows.rows in
    let within : c.args.lane < length rows.items = omega (arith, rows.ok.0, c.len.ensures, c.if-lane-len.false) in
    let row = c.replace-row.result in
    let x : AsideRow = record { lane = c.args.lane; row = row } in
    row-taken c.args.self.now _ c.args.lane row c.replace-row.new.dest
    (λ b. ap (λ (r : LaneRange). seen_in r.cells.items b) c.replace-row.ensures.value ∙ row-of rows.items c.args.lane b c.index_mut.result.now within c.index_mut.ensures.value)
    within (ap (λ (r : LaneRange). r.cells.items) c.replace-row.ensures.after ∙ c.new.ensures)
    (record { draft = refl; lanes = refl; flow = refl; log = refl; touched = refl; gone = refl }) refl (length-set rows.items c.args.lane c.replace-row.new.dest)
    (c.put_aside.ensures ∙ ap (λ xs. xs ++ x ∷ []) c.reserve.ensures.items)
