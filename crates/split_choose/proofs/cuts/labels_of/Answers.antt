use Rattle.std.proofs.Common.{◌∙◌, ap}
use Rattle.std.specs.Prelude.{slice_get}
use Rattle.split_choose.specs.declared.nets.BlockNodes.{BlockNodes}
use Rattle.split_choose.specs.Labelled.{sides_of, row_marks, rows_marks}
use Rattle.split_choose.proofs.Marking.{rows_first, rows_last, row_added}
use Rattle.split_choose.proofs.cuts.labels_of.Goals as goal

pub rows-init : goal.rows-init
rows-init c = λ v offers ended.
    let t = c.args.view.m.now.live.target in
    let f = c.args.view.m.now.live.func in
    let inside = c.as_slice-inside.result.now in
    rows_first (λ (r : BlockNodes). row_marks t f v offers r (sides_of inside r) (slice_get f.blocks r.position)) c.as_slice-rows.result.now c.new-labels.result c.new-labels.ensures

pub rows-preserved : goal.rows-preserved
rows-preserved c = λ v offers ended.
    row_added v offers c.as_slice-inside.result.now c.as_slice-rows.result.now _ c.args.view.m.now.live c.rows.row-index _ c.sides_of.result c.rows.labels c.add_labels.new.labels
    c.live.ensures c.rows-test.true c.sides_of.ensures (c.in_ok-add_labels.ensures v offers) ended (c.rows.invariant v offers ended)

pub returns : goal.returns
returns c = λ v offers ended.
    let t = c.args.view.m.now.live.target in
    let f = c.args.view.m.now.live.func in
    let inside = c.as_slice-inside.result.now in
    let rows = c.as_slice-rows.result.now in
    rows_last (λ (r : BlockNodes). row_marks t f v offers r (sides_of inside r) (slice_get f.blocks r.position)) rows c.rows.row-index c.rows.labels c.rows-test.false (c.rows.invariant v offers ended)
    ∙ (ap (rows_marks t f v offers inside) c.as_slice-rows.ensures.value
    ∙ ap (λ flags. rows_marks t f v offers flags c.args.choice.now.placing.rows.items) c.as_slice-inside.ensures)
