use Rattle.std.proofs.Common.{◌∙◌, ◌-◌, ◌^◌, ◌≤◌, arith, refl, get_or}
use Rattle.block_freq.proofs.Sums.{blocks_more, blocks_all}
use Rattle.block_freq.proofs.weights.all_uses.Goals as goal

pub layout-preserved : goal.layout-preserved
layout-preserved c =
    let e = rw (c.as_slice.ensures, ← c.index-blocks-k.is) at c.add_uses-sum.ensures in
    let within : c.add_uses-sum.result ≤ 2 ^ 128 - 1 = omega (arith, c.add_uses-sum.ensures) in
    (blocks_more (2 ^ 128 - 1) c.args.v c.layout.k c.layout.sum c.add_uses-sum.result (get_or c.args.freqs.now c.layout.k 0) c.args.freqs.now c.args.blocks.now c.index-blocks-k.result (omega arith) (omega arith) refl c.index-blocks-k.is e ∙ c.layout.invariant.0, within)

pub returns : goal.returns
returns c =
    let z = blocks_all c.args.v c.layout.k c.args.freqs.now c.args.blocks.now (omega arith) in
    let i = rw z at c.layout.invariant.0 in
    omega (arith, i, c.layout.invariant.1)
