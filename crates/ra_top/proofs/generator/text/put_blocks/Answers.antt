use Rattle.std.proofs.Common.{◌≡◌, arith}
use Rattle.ra_top.proofs.GeneratorLemmas.Rows.{no_blocks, one_block}
use Rattle.ra_top.proofs.generator.text.put_blocks.Goals as goal

pub layout-init : goal.layout-init
layout-init c = no_blocks c.args.source.now.x c.args.out.now

pub layout-preserved : goal.layout-preserved
layout-preserved c = one_block c.layout.b c.args.source.now.x c.layout.source.x _ c.args.out.now c.layout.out _ c.layout.invariant c.in_ok-put_block.ensures

pub returns : goal.returns
returns c =
    let all : c.layout.b ≡ 400 = omega arith in
    (rw all at c.layout.invariant).0
