use Rattle.std.proofs.Common.{◌∙◌, arith, length-set}
use Rattle.std.proofs.lemmas.List.{get_or_default}
use Rattle.rewriter.proofs.Physicals.{liveins_more, liveins_all}
use Rattle.rewriter.proofs.physical.put_all_liveins.Goals as goal

pub layout-preserved : goal.layout-preserved
layout-preserved c =
    let x = c.get_mut.result.now in
    let y = c.put_liveins.new.block in
    let r = c.in_ok-regs.ensures ∙ (c.index-liveins-k.is ∙ get_or_default c.args.liveins.now c.layout.k c.index-liveins-k.result c.in_ok-regs.regs (omega arith)) in
    (liveins_more c.layout.k c.args.liveins.now c.layout.blocks _ c.in_ok-regs.regs x y (omega arith) (omega arith) c.get_mut.ensures.value r c.put_liveins.ensures c.layout.invariant.0, rw length-set c.layout.invariant.1)

pub returns : goal.returns
returns c = liveins_all c.layout.k c.args.liveins.now c.layout.blocks _ (omega arith) c.layout.invariant.0
