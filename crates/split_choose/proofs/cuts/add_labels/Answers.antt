use Rattle.std.proofs.lemmas.Result.{on_ok_weaker}
use Rattle.split_choose.proofs.Marking.{labels_added}
use Rattle.split_choose.proofs.cuts.add_labels.Goals as goal

pub returns : goal.returns
returns c =
    on_ok_weaker c.add_change-2.result
    (λ made v offers ended.
    labels_added c.args.live.now.target c.args.live.now.func v offers c.args.row c.args.sides c.args.labels.now c.add_start.new.labels c.add_change.new.labels c.add_change-2.new.labels c.gap_ids-first.result.0 c.gap_ids-first.result.1 c.behind_first-middle.result c.same_gap.result
    c.in_ok-add_start.ensures c.in_ok-add_change.ensures made c.behind_first-middle.ensures c.same_gap.ensures c.gap_ids-first.ensures.first c.gap_ids-first.ensures.end ended)
    c.add_change-2.ensures
