use Rattle.std.proofs.Common.{arith, replicate}
use Rattle.alloc_check.specs.Written.{row_leaves}
use Rattle.alloc_check.proofs.WrittenMarks.{adds-more, adds-whole, marks-tell}
use Rattle.alloc_check.proofs.written.marks_of_rows.Goals as goal

pub loop-row-preserved : goal.loop-row-preserved
loop-row-preserved c =
    adds-more (λ row l. row_leaves l row) (replicate c.args.room 0) c.args.rows.now c.loop-row.marks.items _ c.loop-row.row-index c.row-item.result (omega arith) c.row-item.is c.loop-row.invariant c.mark_row.ensures

pub returns : goal.returns
returns c =
    marks-tell c.args.room c.args.rows.now c.loop-row.marks.items
    (adds-whole (λ row l. row_leaves l row) (replicate c.args.room 0) c.args.rows.now c.loop-row.marks.items c.loop-row.row-index (omega arith) c.loop-row.invariant)
