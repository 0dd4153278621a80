use Rattle.std.proofs.Common.{rules, sym, ap, ◌∙◌, subst}
use Rattle.std.specs.List.Sorted.{IsPartitionedBy}
use Rattle.std.proofs.lemmas.List.Sorted.{IsPartitionPoint-from_clause}
use Rattle.live_lanes.specs.Table.{is_before, leading}
use Rattle.live_lanes.proofs.Cells.{partition-leading, parted}
use Rattle.live_lanes.proofs.row.LaneRange.sparse_place.Goals as goal

pub returns-clause-place : goal.returns-clause-place
returns-clause-place c =
    let test = is_before c.args.block in
    let cells = c.as_slice-2.result.now in
    let same = c.as_slice-2.ensures.value in
    let part = subst (IsPartitionedBy test) (sym same) (parted c.args.block c.args.self.now.cells.items c.args.self.now.sorted) in
    let at = IsPartitionPoint-from_clause test cells c.partition_point.result c.partition_point.ensures.partitioned part (λ a r f h. search rules) in
    partition-leading test cells c.partition_point.result c.partition_point.ensures.bound at.0 at.1 ∙ ap (leading test) same
