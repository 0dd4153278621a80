use Rattle.std.proofs.Common.{◌+◌, arith}
use Rattle.live_edits.proofs.RunSlots.{slots-then, numbered-more}
use Rattle.live_edits.proofs.edit_run.number_slots.Goals as goal

pub edits-preserved : goal.edits-preserved
edits-preserved c = record {
  numbered = numbered-more c.edits.lanes c.number_slot.new.lanes c.args.edits.now c.edits.edit-index (c.edits.edit-index + 1) c.edit-item.result c.edits-test.true (omega arith) c.edit-item.is c.in_ok-number_slot.ensures.added c.edits.invariant.numbered c.in_ok-number_slot.ensures.numbered;
  added = slots-then c.args.lanes.now c.edits.lanes c.number_slot.new.lanes c.edits.invariant.added c.in_ok-number_slot.ensures.added;
}
