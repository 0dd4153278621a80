use Rattle.std.proofs.Common.{arith, length, ◌<◌}
use Rattle.split_choose.proofs.Locals.{split-none, split-found}
use Rattle.split_choose.proofs.runs.best_split.Goals as goal

pub returns-in_default : goal.returns-in_default
returns-in_default c parents freqs loc =
    split-none c.args.view.m.now c.args.view.v parents freqs c.args.view.places.now c.args.view.spans.now loc _ (c.in_ok-run.ensures parents freqs loc) c.in_default.is

pub returns : goal.returns
returns c parents freqs loc =
    let fits : length c.args.view.places.now < 18446744073709551616 = omega arith in
    split-found c.args.view.m.now c.args.view.v parents freqs c.args.view.places.now c.args.view.spans.now loc _ (c.in_ok-run.ensures parents freqs loc) _ c.in-Some.run' c.saturating_add.result c.saturating_sub-last.result c.in_ok-labels.labels
    c.live.ensures c.in-Some.is fits c.saturating_add.ensures c.saturating_sub-last.ensures c.in_ok-labels.ensures
