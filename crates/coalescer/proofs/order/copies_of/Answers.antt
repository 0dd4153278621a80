use Rattle.std.proofs.Common.{◌∙◌, ◌++◌, get_or, sym, ap, arith}
use Rattle.join_laws.specs.Joined.{block_copies}
use Rattle.coalescer.proofs.Zipped.{one-more, all-of-them, get_or-own}
use Rattle.coalescer.proofs.order.copies_of.Goals as goal

pub returns : goal.returns
returns c = c.layout.invariant ∙ all-of-them (block_copies c.args.target.now) c.args.freqs.now c.args.blocks.now c.layout.k (let e = c.min-k-end.ensures in omega arith)

pub layout-preserved : goal.layout-preserved
layout-preserved c =
    let fs = c.args.freqs.now in
    let bs = c.args.blocks.now in
    let g = block_copies c.args.target.now in
    let e = c.min-k-end.ensures in
    let b = c.index-blocks-k.result in
    c.in_ok-push_copies.ensures
    ∙ ap (λ xs. xs ++ g (get_or fs c.layout.k 0, b)) c.layout.invariant
    ∙ sym (one-more g fs bs c.layout.k (get_or fs c.layout.k 0) b (omega arith) (omega arith) (get_or-own fs c.layout.k (omega arith)) c.index-blocks-k.is)
