use Rattle.std.proofs.Common.{◌+◌, arith}
use Rattle.live_edits.proofs.AsideTold.{changed-more}
use Rattle.live_edits.proofs.aside.changed_ids.Goals as goal

pub edits-preserved : goal.edits-preserved
edits-preserved c = changed-more c.args.edits.now c.edits.edit-index (c.edits.edit-index + 1) c.edit-item.result c.edits.ids.keys c.add_changed.new.ids.keys c.edits-test.true (omega arith) c.edit-item.is c.edits.invariant c.in_ok-add_changed.ensures
