use Rattle.alloc_check.specs.Marks.{unwritten}
use Rattle.alloc_check.proofs.WrittenMarks.{adds-then}
use Rattle.alloc_check.proofs.written.mark_both.Goals as goal

pub returns : goal.returns
returns c = adds-then c.args.marks.now.items c.mark_writes.new.marks.items c.mark_writes-2.new.marks.items (unwritten c.args.first.now) (unwritten c.args.second.now) c.mark_writes.ensures c.mark_writes-2.ensures
