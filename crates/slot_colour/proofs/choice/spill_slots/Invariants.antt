use Rattle.std.proofs.Common.{◌≡◌, drop}
use Rattle.slot_colour.specs.Colouring.{spills_onto, spill_slots}
use Rattle.slot_colour.proofs.choice.spill_slots.Given as goal

abbrev pub invariant-objects : goal.invariant-objects
invariant-objects l = spills_onto l.rising.items (drop l.object-index l.frames) ≡ spill_slots l.frames
