use Rattle.split_choose.proofs.Running.{border_next}
use Rattle.split_choose.proofs.runs.add_borders.Goals as goal

pub starts-preserved : goal.starts-preserved
starts-preserved c = border_next c.args.live.now.func.blocks c.args.a c.starts.offset c.args.labels.now c.starts.labels c.add_mark.new.labels c.starts.invariant c.in_ok-add_mark.ensures
