use Rattle.std.proofs.Common.{not, arith}
use Rattle.meaning.specs.Lanes.{same_lane}
use Rattle.alloc_check.proofs.WrittenMarks.{adds-none, adds-more, adds-whole, adds-writes}
use Rattle.alloc_check.proofs.written.mark_writes.Goals as goal

pub loop-w-init : goal.loop-w-init
loop-w-init c = adds-none c.args.marks.now.items

pub loop-w-preserved : goal.loop-w-preserved
loop-w-preserved c =
    adds-more (λ w x. not (same_lane w.lane x)) c.args.marks.now.items c.args.writes.now c.loop-w.marks.items _ c.loop-w.w-index c.w-item.result (omega arith) c.w-item.is c.loop-w.invariant c.mark_lane.ensures

pub returns : goal.returns
returns c =
    adds-writes c.args.marks.now.items c.loop-w.marks.items c.args.writes.now
    (adds-whole (λ w x. not (same_lane w.lane x)) c.args.marks.now.items c.args.writes.now c.loop-w.marks.items c.loop-w.w-index (omega arith) c.loop-w.invariant)
