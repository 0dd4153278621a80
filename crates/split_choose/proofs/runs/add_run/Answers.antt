use Rattle.split_choose.proofs.Running.{run-marked}
use Rattle.split_choose.proofs.runs.add_run.Goals as goal

pub returns : goal.returns
returns c v view n m p q finds e is-a g is-z =
    run-marked c.args.live.now.target c.args.live.now.func c.args.live.now.table v view finds n m p q c.args.a c.args.z c.args.labels.now c.add_mark.new.labels c.add_borders.new.labels c.add_end.new.labels e is-a g is-z
    c.in_ok-add_mark.ensures c.in_ok-add_borders.ensures c.in_ok-add_end.ensures
