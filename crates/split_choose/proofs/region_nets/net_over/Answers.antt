use Rattle.std.proofs.Common.{◌≡◌, ◌∙◌}
use Rattle.std.proofs.lemmas.Result.{IfOk-weaker}
use Rattle.split_choose.specs.Spans.{is_clear_in}
use Rattle.split_choose.proofs.region_nets.net_over.Goals as goal

pub returns : goal.returns
returns c =
    IfOk-weaker c.placing_of.result _ _
    (λ made h ready few.
    h (is_clear_in c.args.view.m.now c.args.view.v c.args.register) (c.as_slice.ensures.value ∙ c.in_ok-clear.ensures ready.order ready.stretches) few ready.earlier)
    c.placing_of.ensures
