use Rattle.std.proofs.Common.{◌∙◌, ap, arith, length}
use Rattle.mir_meaning.specs.Valid.{cover}
use Rattle.machine_verify.specs.Liveins.{is_set}
use Rattle.rewriter.specs.LiveUnits.{live_into}
use Rattle.rewriter.proofs.Covers.{covers_first, covers_more, covers_all}
use Rattle.rewriter.proofs.cover.all_liveins.Goals as goal

pub layout-init : goal.layout-init
layout-init c = covers_first c.args.target.now (live_into c.args.live.now) c.args.blocks.now _ c.in_ok-made.ensures

pub layout-preserved : goal.layout-preserved
layout-preserved c =
    covers_more c.args.target.now (live_into c.args.live.now) (length c.args.blocks.now) c.layout.k c.layout.made.items _ _ c.in_ok-regs.regs (omega arith) (c.in_ok-regs.ensures ∙ ap (λ fs. cover c.args.target.now (is_set fs)) c.at.ensures) c.in_ok-push.ensures.items c.layout.invariant

pub returns : goal.returns
returns c = covers_all c.args.target.now (live_into c.args.live.now) (length c.args.blocks.now) c.layout.k c.layout.made.items _ (omega arith) c.layout.invariant
