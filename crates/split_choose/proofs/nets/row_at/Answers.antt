use Rattle.std.proofs.Common.{◌≡◌, ◌∙◌, ap, arith}
use Rattle.split_choose.specs.Bundles.{start_of, end_of}
use Rattle.split_choose.specs.Nets.{node_if, node_of}
use Rattle.split_choose.proofs.nets.row_at.Goals as goal

pub returns : goal.returns
returns c = λ clear count earlier nodes few below.
    let s = c.args.span.now in
    let node = node_of c.args.view.bundles.now.parents.items clear c.args.view.spans.now in
    let a : c.start_of.result ≡ start_of s.position = c.start_of.ensures (omega arith) in
    let b : c.end_of.result ≡ end_of s.position = c.end_of.ensures (omega arith) in
    let entry : c.node_if.result ≡ node_if s.is_live_in (node (start_of s.position)) = c.node_if.ensures ∙ ap (node_if s.is_live_in) (c.border_node.ensures clear count earlier nodes (omega (arith, a)) ∙ ap node a) in
    let exit : c.node_if-2.result ≡ node_if s.is_live_out (node (end_of s.position)) = c.node_if-2.ensures ∙ ap (node_if s.is_live_out) (c.border_node-2.ensures clear count earlier nodes (omega (arith, b)) ∙ ap node b) in
    let inside = c.node_if-3.ensures in
    cc
