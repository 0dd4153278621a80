use Rattle.live_edits.proofs.RunIds.{ids-more}
use Rattle.live_edits.proofs.edit_run.ids_of.Goals as goal

pub touched-preserved : goal.touched-preserved
touched-preserved c = ids-more c.args.touched.now c.touched.instr-index c.instr-item.result c.touched.ids.keys c.add_id.new.ids.keys c.touched-test.true c.instr-item.is c.touched.invariant c.in_ok-add_id.ensures
