use Rattle.std.proofs.Common.{replicate, take}
use Rattle.alloc_check.specs.Written.{AddsMarks, rows_leave}
use Rattle.alloc_check.proofs.written.marks_of_rows.Given as goal

abbrev pub invariant-loop-row : goal.invariant-loop-row
invariant-loop-row l = AddsMarks (replicate l.room 0) (rows_leave (take l.row-index l.rows)) l.marks.items
