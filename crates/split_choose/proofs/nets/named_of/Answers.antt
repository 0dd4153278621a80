use Rattle.std.proofs.Common.{◌≡◌, ◌∙◌, map, false}
use Rattle.std.proofs.lemmas.Result.{IfOk-weaker}
use Rattle.split_choose.specs.declared.spans.Span.{Span}
use Rattle.split_choose.proofs.Netting.{no_flags-none}
use Rattle.split_choose.proofs.nets.named_of.Goals as goal

pub returns : goal.returns
returns c =
    IfOk-weaker c.outside_of.result _ _
    (λ flags h few positions. (
    let none : c.as_slice.result.now ≡ map (λ (s : Span). false) c.args.view.spans.now = c.as_slice.ensures.value ∙ (c.in_ok-none.ensures ∙ no_flags-none c.args.view.spans.now) in
    let out = h (λ (s : Span). false) none few positions in
    record { size = out.size; told = out.told }))
    c.outside_of.ensures
