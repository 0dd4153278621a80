use Rattle.std.proofs.Common.{rules, sym, ap, ◌∙◌, subst}
use Rattle.std.specs.List.Sorted.{IsPartitionedBy}
use Rattle.std.proofs.lemmas.List.Sorted.{IsPartitionPoint-from_clause}
use Rattle.live_lanes.specs.Table.{leading}
use Rattle.live_lanes.proofs.Cells.{partition-leading}
use Rattle.live_lanes.proofs.Behind.{is_from, from-parted}
use Rattle.live_lanes.proofs.row.LaneRange.place_before.Goals as goal

pub returns : goal.returns
returns c =
    let test = is_from c.args.bound in
    let rows = c.args.self.now.cells in
    let cells = c.as_slice.result.now in
    let same = c.as_slice.ensures.value in
    let part = subst (IsPartitionedBy test) (sym same) (from-parted c.args.bound rows.items c.args.self.now.sorted) in
    let at = IsPartitionPoint-from_clause test cells c.partition_point.result c.partition_point.ensures.partitioned part (λ a r f h. search rules) in
    partition-leading test cells c.partition_point.result c.partition_point.ensures.bound at.0 at.1 ∙ ap (leading test) same
