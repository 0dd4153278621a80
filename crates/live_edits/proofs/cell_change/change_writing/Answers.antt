use Rattle.std.proofs.Common.{◌∙◌, refl, sym, ap, arith}
use Rattle.std.proofs.lemmas.List.{length-map}
use Rattle.live_lanes.specs.Table.{Seen, seen_cell, begun, changed_at}
use Rattle.live_edits.specs.CellChanges.{begun_with_writing}
use Rattle.live_edits.proofs.CellChanged.{put-writing, writing-back, writing-past}
use Rattle.live_edits.proofs.cell_change.change_writing.Goals as goal

pub returns-then-at-len-clause-changed : goal.returns-then-at-len-clause-changed
returns-then-at-len-clause-changed c = writing-past (seen_cell c.args.cell.now) c.args.at c.args.early c.args.from (omega (arith, length-map c.args.cell.now.segments.items begun))

pub returns-then-at-len-clause-back : goal.returns-then-at-len-clause-back
returns-then-at-len-clause-back c = sym (writing-past (seen_cell c.args.cell.now) c.args.at c.args.early c.args.from (omega (arith, length-map c.args.cell.now.segments.items begun)))

pub returns-clause-changed : goal.returns-clause-changed
returns-clause-changed c =
    let x = c.index_mut-segment.result.now in
    put-writing c.args.cell.now c.args.at x (record x { early = c.args.early; from = c.args.from }) (omega arith) c.index_mut-segment.ensures.value c.args.early c.args.from refl

pub returns-clause-back : goal.returns-clause-back
returns-clause-back c =
    let x = c.index_mut-segment.result.now in
    ap (λ (v : Seen). record v { segments = changed_at c.args.at (begun_with_writing x.early x.from) v.segments }) (put-writing c.args.cell.now c.args.at x (record x { early = c.args.early; from = c.args.from }) (omega arith) c.index_mut-segment.ensures.value c.args.early c.args.from refl)
    ∙ writing-back c.args.cell.now c.args.at x x (omega arith) c.index_mut-segment.ensures.value c.args.early c.args.from
