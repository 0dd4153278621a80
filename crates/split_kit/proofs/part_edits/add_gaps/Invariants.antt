use Rattle.std.proofs.Common.{◌≡◌, ◌<◌, ◌++◌, List, length, drop}
use Rattle.mir_func.specs.declared.func.Instr.{Instr}
use Rattle.live_lanes.specs.Looks.{InOrder}
use Rattle.live_lanes.specs.Ordered.{ids_of}
use Rattle.live_lanes.specs.Touching.{FindsInstrs}
use Rattle.live_edits.specs.Runs.{edits_of}
use Rattle.split_kit.specs.PartEdits.{AreWithin, gap_edits, gap_live}
use Rattle.split_kit.proofs.part_edits.add_gaps.Given as goal

abbrev pub invariant-marks : goal.invariant-marks
invariant-marks l =
    let live = l.view.live.now in
    let edits = gap_edits live.func l.view.v live.table.order.slots (gap_live live.table live.func.blocks l.view.v l.position) in
    (own : List Instr) → FindsInstrs live.table live.func.blocks → InOrder live.table → AreWithin live.func.blocks own → l.ids ≡ ids_of own → length live.func.classes < 2147483648
    → (rest : List Instr) × AreWithin live.func.blocks rest × (l.left ≡ ids_of rest) × (edits_of l.edits.items ++ edits l.held rest (drop l.mark-index l.marks) ≡ edits_of l.fn.edits.items ++ edits l.label own l.marks)
