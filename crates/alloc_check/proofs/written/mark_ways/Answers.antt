use Rattle.std.proofs.Common.{arith, rules}
use Rattle.alloc_check.specs.Written.{way_leaves}
use Rattle.alloc_check.proofs.WrittenMarks.{adds-none, adds-more, adds-whole}
use Rattle.alloc_check.proofs.written.mark_ways.Goals as goal

pub loop-e-init : goal.loop-e-init
loop-e-init c = adds-none c.args.marks.now.items

pub loop-e-preserved : goal.loop-e-preserved
loop-e-preserved c =
    adds-more (λ e l. way_leaves l e) c.args.marks.now.items c.args.ways.now c.loop-e.marks.items _ c.loop-e.e-index c.e-item.result (omega arith) c.e-item.is c.loop-e.invariant (search rules)

pub returns : goal.returns
returns c = adds-whole (λ e l. way_leaves l e) c.args.marks.now.items c.args.ways.now c.loop-e.marks.items c.loop-e.e-index (omega arith) c.loop-e.invariant
