use Rattle.std.proofs.Common.{◌≡◌, ◌<◌, ◌++◌, List, length, take}
use Rattle.std.specs.Prelude.{flat_map}
use Rattle.mir_func.specs.declared.func.Instr.{Instr}
use Rattle.live_lanes.specs.Ordered.{ids_of}
use Rattle.live_lanes.specs.Touching.{FindsInstrs}
use Rattle.live_edits.specs.Runs.{edits_of}
use Rattle.split_kit.specs.PartEdits.{AreWithin, part_edits}
use Rattle.split_kit.proofs.part_edits.add_parts.Given as goal

abbrev pub invariant-ids : goal.invariant-ids
invariant-ids l =
    let live = l.view.live.now in
    (own : List Instr) → FindsInstrs live.table live.func.blocks → AreWithin live.func.blocks own → l.ids ≡ ids_of own → length live.func.classes < 2147483648
    → edits_of l.edits.items ≡ edits_of l.fn.edits.items ++ flat_map (part_edits live.func l.view.v l.label) (take l.id-index own)
