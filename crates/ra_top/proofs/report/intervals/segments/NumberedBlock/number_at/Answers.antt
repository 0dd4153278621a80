use Rattle.std.proofs.Common.{◌≡◌, ◌+◌, ◌*◌, rules, arith, Bool, ◌∙◌}
use Rattle.std.specs.Prelude.{nat_lt}
use Rattle.std.specs.List.Sorted.{IsPartitionedBy}
use Rattle.std.proofs.lemmas.List.Sorted.{IsPartitionPoint-from_clause}
use Rattle.mir_func.specs.declared.func.Instr.{Instr}
use Rattle.live_lanes.specs.Table.{leading, exit_rank}
use Rattle.live_lanes.proofs.Cells.{partition-leading}
use Rattle.interval_laws.specs.Told.{number_at}
use Rattle.ra_top.proofs.ReportLemmas.Intervals.Numbers.{exits-parted}
use Rattle.ra_top.proofs.report.intervals.segments.NumberedBlock.number_at.Goals as goal

pub returns : goal.returns
returns c =
    let slots = c.args.self.now.live.now.table.order.slots in
    let items = c.args.self.now.instrs.now in
    let test : Instr → Bool = λ i. nat_lt (exit_rank slots i.id) c.args.point in
    let part : IsPartitionedBy test items = exits-parted slots c.args.point items c.requires.rising in
    let at = IsPartitionPoint-from_clause test items c.partition_point-place.result c.partition_point-place.ensures.partitioned part (λ a r f h. search rules) in
    let bound = c.partition_point-place.ensures.bound in
    let place : c.partition_point-place.result ≡ leading test items = partition-leading test items c.partition_point-place.result bound at.0 at.1 in
    let short = c.requires.short in
    let same : c.args.self.now.start + 16 * (c.partition_point-place.result + 1) ≡ number_at slots c.args.self.now.start items c.args.point = omega (arith, place) in
    c.number_behind.ensures (omega (arith, bound, short)) ∙ same
