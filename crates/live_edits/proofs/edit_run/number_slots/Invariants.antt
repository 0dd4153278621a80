use Rattle.std.proofs.Common.{take}
use Rattle.live_edits.specs.Runs.{edits_of, AddsSlots, NumbersSlots}
use Rattle.live_edits.proofs.edit_run.number_slots.Given as goal

abbrev pub invariant-edits : goal.invariant-edits
invariant-edits l = record {
  numbered : NumbersSlots l.lanes (edits_of (take l.edit-index l.edits));
  added : AddsSlots l.fn.lanes l.lanes;
}
