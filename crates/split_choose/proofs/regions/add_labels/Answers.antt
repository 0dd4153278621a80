use Rattle.std.proofs.lemmas.Result.{on_ok_weaker}
use Rattle.split_choose.proofs.Labelling.{head_added}
use Rattle.split_choose.proofs.regions.add_labels.Goals as goal

pub returns-in_ok-add_mark-in-Start : goal.returns-in_ok-add_mark-in-Start
returns-in_ok-add_mark-in-Start c =
    on_ok_weaker c.add_mark-in-Start-2.result
    (λ made v offers ended. (let added = head_added c.args.live.now.target c.args.live.now.func v offers c.args.position c.args.labels.now c.add_mark-in-Start.new.labels c.add_mark-in-Start-2.new.labels c.gap_ids-first.result.1
    c.in_ok-add_mark-in-Start.ensures made c.gap_ids-first.ensures.end ended in rw (c.in-Start.is) added))
    c.add_mark-in-Start-2.ensures
