use Rattle.std.proofs.Common.{rules, Bool}
use Rattle.std.proofs.lemmas.List.Sorted.{IsPartitionPoint-from_clause}
use Rattle.live_lanes.specs.declared.row.LaneUse.{LaneUse}
use Rattle.live_edits.specs.Renoted.{under}
use Rattle.live_edits.proofs.RenoteCut.{cuts}
use Rattle.live_edits.proofs.renote.readings_before.Goals as goal

pub returns-clause-cut : goal.returns-clause-cut
returns-clause-cut c =
    let test : LaneUse → Bool = λ r. under c.args.slots.now c.args.id r.id in
    let n = c.partition_point.result in
    cuts test c.args.readings.now n c.partition_point.ensures.bound (λ part. IsPartitionPoint-from_clause test c.args.readings.now n c.partition_point.ensures.partitioned part (λ a r f h. search rules))
