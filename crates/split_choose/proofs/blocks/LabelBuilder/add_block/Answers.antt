use Rattle.std.proofs.Common.{refl}
use Rattle.split_choose.proofs.Labels.{pair-added}
use Rattle.split_choose.proofs.blocks.LabelBuilder.add_block.Goals as goal

pub returns : goal.returns
returns c ended =
    let added = pair-added c.args.live.now.target c.args.live.now.func.blocks c.args.position c.saturating_add-self.result c.args.self.now.labels c.add_mark.new.labels c.add_mark-2.new.labels c.gap_ids-first.result.0 c.gap_ids-first.result.1
    c.in_ok-add_mark.ensures c.in_ok-add_mark-2.ensures c.gap_ids-first.ensures.first c.gap_ids-first.ensures.end ended in
    rw (added, c.saturating_add-self.ensures) refl
