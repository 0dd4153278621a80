use Rattle.std.proofs.Common.{◌∙◌, ap, get_or, false}
use Rattle.split_choose.proofs.Netting.{node-inner, node-outer}
use Rattle.split_choose.proofs.nets.border_node.Goals as goal

pub returns-then-flag_at : goal.returns-then-flag_at
returns-then-flag_at c = λ clear count earlier nodes below. node-outer _ clear c.args.view.spans.now count c.args.border c.find-root.result c.flag_at.result c.args.bundles.now earlier nodes below c.find-root.ensures (c.flag_at.ensures ∙ ap (λ xs. get_or xs c.find-root.result false) c.as_slice.ensures.value) c.if-flag_at.true

pub returns-else-flag_at : goal.returns-else-flag_at
returns-else-flag_at c = λ clear count earlier nodes below. node-inner _ clear c.args.view.spans.now count c.args.border c.find-root.result c.node_at.result c.flag_at.result c.args.bundles.now earlier nodes below c.find-root.ensures (c.flag_at.ensures ∙ ap (λ xs. get_or xs c.find-root.result false) c.as_slice.ensures.value) c.if-flag_at.false (c.node_at.ensures ∙ ap (λ xs. get_or xs c.find-root.result 1) c.as_slice-else-flag_at.ensures.value)
