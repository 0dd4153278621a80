use Rattle.std.proofs.Common.{not, sym, set, subst}
use Rattle.meaning.specs.Lanes.{same_lane}
use Rattle.alloc_check.specs.Written.{AddsMarks}
use Rattle.alloc_check.proofs.WrittenMarks.{adds-none, adds-unit}
use Rattle.alloc_check.proofs.written.mark_lane.Goals as goal

pub returns-in-UnitLane : goal.returns-in-UnitLane
returns-in-UnitLane c =
    let marks = c.args.marks.now.items in
    subst (λ new. AddsMarks marks (λ l. not (same_lane c.args.lane l)) new) (sym c.set_mark.ensures)
    (subst (λ lane. AddsMarks marks (λ l. not (same_lane lane l)) (set marks c.in-UnitLane.u 1)) (sym c.in-UnitLane.is) (adds-unit marks c.in-UnitLane.u))

pub returns-in-VirtualLane : goal.returns-in-VirtualLane
returns-in-VirtualLane c =
    let marks = c.args.marks.now.items in
    subst (λ lane. AddsMarks marks (λ l. not (same_lane lane l)) marks) (sym c.in-VirtualLane.is) (adds-none marks)

pub returns-in-SlotLane : goal.returns-in-SlotLane
returns-in-SlotLane c =
    let marks = c.args.marks.now.items in
    subst (λ lane. AddsMarks marks (λ l. not (same_lane lane l)) marks) (sym c.in-SlotLane.is) (adds-none marks)
