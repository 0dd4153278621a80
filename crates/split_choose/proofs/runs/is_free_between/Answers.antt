use Rattle.split_choose.proofs.Running.{placed-at}
use Rattle.split_choose.proofs.runs.is_free_between.Goals as goal

pub returns : goal.returns
returns c parents freqs p q places finds named unbordered told same at_a at_z next =
    c.is_free_from.ensures parents freqs p q c.args.a c.args.z places finds named unbordered told at_a at_z next
    (placed-at c.args.view.m.now.live.func.blocks c.args.view.places.now _ c.args.a p _ same at_a) (placed-at c.args.view.m.now.live.func.blocks c.args.view.places.now _ c.args.z q _ same at_z)
