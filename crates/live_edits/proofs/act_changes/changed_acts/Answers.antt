use Rattle.live_edits.proofs.ActChanges.{all-changed}
use Rattle.live_edits.proofs.act_changes.changed_acts.Goals as goal

pub returns : goal.returns
returns c = λ once.
    all-changed c.args.before.now c.args.after.now c.in_ok-changed.changed.items c.add_former.new.changed.items c.add_further.new.changed.items c.in_ok-changed.ensures.items once c.in_ok-add_former.ensures c.in_ok-add_further.ensures
