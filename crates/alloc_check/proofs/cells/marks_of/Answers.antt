use Rattle.std.proofs.Common.{◌+◌, take, sym, subst, set, arith, ap, ◌∙◌}
use Rattle.alloc_check.specs.Marks.{Marks}
use Rattle.alloc_check.proofs.Marked.{marks-none, marks-more}
use Rattle.alloc_check.proofs.cells.marks_of.Goals as goal

pub loop-w-init : goal.loop-w-init
loop-w-init c = marks-none _ _

pub loop-w-preserved : goal.loop-w-preserved
loop-w-preserved c =
    subst (λ m. Marks c.args.slots m (take (c.loop-w.w-index + 1) c.args.writes.now)) (sym (c.set_mark.ensures ∙ ap (λ at. set c.loop-w.marks.items at 1) c.lane_slot.ensures))
    (marks-more c.args.slots c.loop-w.marks.items c.args.writes.now c.loop-w.w-index c.w-item.result (omega arith) c.w-item.is c.loop-w.invariant)
