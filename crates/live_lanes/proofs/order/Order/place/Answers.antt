use Rattle.std.proofs.Common.{◌≡◌, rules, sym, ap, ◌∙◌, subst, Bool}
use Rattle.std.specs.List.Sorted.{IsPartitionedBy}
use Rattle.std.proofs.lemmas.List.Sorted.{IsPartitionPoint-from_clause}
use Rattle.mir_func.specs.declared.func.Instr.{Instr}
use Rattle.slot_index.specs.Order.{number_of}
use Rattle.live_lanes.specs.Table.{leading}
use Rattle.live_lanes.proofs.Cells.{partition-leading}
use Rattle.live_lanes.proofs.Finding.{stands_before, before-parted, stands-there}
use Rattle.live_lanes.proofs.order.Order.place.Goals as goal

pub returns : goal.returns
returns c = λ r j i e f.
    let slots = c.args.self.now.slots in
    let is = c.args.instrs.now in
    let test : Instr → Bool = stands_before slots (number_of slots c.args.id) in
    let at = IsPartitionPoint-from_clause test is c.partition_point.result c.partition_point.ensures.partitioned (before-parted slots (number_of slots c.args.id) is r) (λ a r f h. search rules) in
    partition-leading test is c.partition_point.result c.partition_point.ensures.bound at.0 at.1 ∙ subst (λ n. leading (stands_before slots (number_of slots n)) is ≡ j) f (stands-there slots is j i r e)
