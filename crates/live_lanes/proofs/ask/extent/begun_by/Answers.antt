use Rattle.std.proofs.Common.{rules, sym, ap, ◌∙◌, subst, Bool}
use Rattle.std.specs.Prelude.{nat_le}
use Rattle.std.specs.List.Sorted.{IsPartitionedBy}
use Rattle.std.proofs.lemmas.List.Sorted.{IsPartitionPoint-from_clause}
use Rattle.live_lanes.specs.declared.row.DefPiece.{DefPiece}
use Rattle.live_lanes.specs.Table.{leading, begun, Begun, seen_cell}
use Rattle.live_lanes.specs.Held.{hold_rank}
use Rattle.live_lanes.proofs.Cells.{partition-leading}
use Rattle.live_lanes.proofs.Segments.{parted-map, leading-map}
use Rattle.live_lanes.proofs.Extents.{hold-parted}
use Rattle.live_lanes.proofs.ask.extent.begun_by.Goals as goal

pub returns : goal.returns
returns c = λ r.
    let begins : Begun → Bool = λ s. nat_le (hold_rank c.args.slots.now s) c.args.at in
    let test : DefPiece → Bool = λ s. begins (begun s) in
    let items = c.args.cell.now.segments.items in
    let segments = c.as_slice.result.now in
    let same = c.as_slice.ensures.value in
    let part = subst (IsPartitionedBy test) (sym same) (parted-map begun begins items (hold-parted c.args.slots.now c.args.at (seen_cell c.args.cell.now).segments r)) in
    let at = IsPartitionPoint-from_clause test segments c.partition_point.result c.partition_point.ensures.partitioned part (λ a r f h. search rules) in
    partition-leading test segments c.partition_point.result c.partition_point.ensures.bound at.0 at.1 ∙ ap (leading test) same ∙ sym (leading-map begun begins items)
