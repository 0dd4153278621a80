use Rattle.std.proofs.Common.{◌≡◌, ◌+◌, rules, ap, ◌∙◌, Bool, arith}
use Rattle.std.specs.Prelude.{nat_lt}
use Rattle.mir_func.specs.declared.func.Instr.{Instr}
use Rattle.std.proofs.lemmas.List.Sorted.{IsPartitionPoint-from_clause}
use Rattle.live_lanes.specs.Table.{entry_rank, exit_rank, leading}
use Rattle.live_lanes.proofs.Cells.{partition-leading}
use Rattle.live_lanes.proofs.Tallied.{entries-parted, counted-all, counted-below, counted-none}
use Rattle.live_lanes.proofs.table.Table.points_below.Goals as goal

pub returns-then-at-eq0 : goal.returns-then-at-eq0
returns-then-at-eq0 c = λ r. counted-none c.args.self.now.order.slots c.args.instrs.now c.args.at r c.if-at-eq0.true

pub returns-then-at : goal.returns-then-at
returns-then-at c = λ r. counted-all c.args.self.now.order.slots c.args.at c.args.instrs.now r (omega (arith, c.if-at.true))

pub returns : goal.returns
returns c = λ r.
    let slots = c.args.self.now.order.slots in
    let is = c.args.instrs.now in
    let entering : Instr → Bool = λ i. nat_lt (entry_rank slots i.id) c.args.at in
    let leaving : Instr → Bool = λ i. nat_lt (exit_rank slots i.id) c.args.at in
    let a = IsPartitionPoint-from_clause entering is c.partition_point-entries.result c.partition_point-entries.ensures.partitioned (entries-parted slots c.args.at is r) (λ a r f h. search rules) in
    let x : c.partition_point-entries.result ≡ leading entering is = partition-leading entering is c.partition_point-entries.result c.partition_point-entries.ensures.bound a.0 a.1 in
    let y : c.exits_below-exits.result ≡ leading leaving is = c.exits_below-exits.ensures.exits r x in
    ap (λ n. n + c.exits_below-exits.result + 1) x ∙ ap (λ n. leading entering is + n + 1) y ∙ counted-below slots c.args.at is r c.if-at-eq0.false
