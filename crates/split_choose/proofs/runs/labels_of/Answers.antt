use Rattle.std.proofs.Common.{◌++◌, ◌∙◌, ap}
use Rattle.split_choose.specs.Offers.{run_marks}
use Rattle.split_choose.proofs.Running.{placed-at}
use Rattle.split_choose.proofs.runs.labels_of.Goals as goal

pub returns : goal.returns
returns c v view p q finds same e g =
    c.in_ok-add_run.ensures v view c.args.first c.args.last p q finds e (placed-at c.args.live.now.func.blocks c.args.places.now _ c.args.first p _ same e) g (placed-at c.args.live.now.func.blocks c.args.places.now _ c.args.last q _ same g)
    ∙ ap (λ ms. ms ++ run_marks c.args.live.now.target c.args.live.now.func v view (p, q)) c.new-labels.ensures
