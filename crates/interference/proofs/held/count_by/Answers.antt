use Rattle.std.proofs.Common.{rules, sym, ap, ◌∙◌, subst, Bool}
use Rattle.std.specs.List.Sorted.{IsPartitionedBy}
use Rattle.std.proofs.lemmas.List.Sorted.{IsPartitionPoint-from_clause}
use Rattle.live_lanes.specs.Table.{leading}
use Rattle.live_lanes.proofs.Cells.{partition-leading}
use Rattle.interference.specs.declared.held.RangeExtent.{RangeExtent}
use Rattle.interference.specs.Clashes.{begins_by}
use Rattle.interference.proofs.Parts.{held-parted}
use Rattle.interference.proofs.held.count_by.Goals as goal

pub returns-clause-count : goal.returns-clause-count
returns-clause-count c = λ n a.
    let test : RangeExtent → Bool = begins_by c.args.slots.now c.args.at in
    let same = c.as_slice.ensures.value in
    let part = subst (IsPartitionedBy test) (sym same) (held-parted c.args.slots.now c.args.at n c.args.part.now.items a) in
    let at = IsPartitionPoint-from_clause test c.as_slice.result.now c.partition_point.result c.partition_point.ensures.partitioned part (λ a r f h. search rules) in
    partition-leading test c.as_slice.result.now c.partition_point.result c.partition_point.ensures.bound at.0 at.1 ∙ ap (leading test) same
