use Rattle.std.proofs.Common.{ap, map, ◌∙◌}
use Rattle.std.specs.Ordering.{nat_cmp}
use Rattle.std.specs.BTreeMap.{get}
use Rattle.instr_effects.specs.Numbered.{number_in}
use Rattle.instr_effects.specs.Steps.{seen_read}
use Rattle.live_lanes.specs.Doing.{doing_of}
use Rattle.live_lanes.proofs.Raised.{on-ok}
use Rattle.live_lanes.proofs.Entering.{instr-enters}
use Rattle.live_lanes.proofs.table.LaneRanges.add_instr.Goals as goal

pub returns : goal.returns
returns c =
    let r = c.args.reader.now in
    let e = c.in_ok-effects.ensures in
    on-ok c.add_phi_reads.result c.add_phi_reads.ensures (λ ends.
    instr-enters (get nat_cmp c.args.order.now.positions) c.args.block (doing_of r.target.now r.func.now (number_in r.lanes.now) c.args.instr.now) c.args.self.now.rows.items c.add_reads.new.self.rows.items c.add_moves.new.self.rows.items c.add_writes.new.self.rows.items c.add_phi_reads.new.self.rows.items c.as_slice.result.now c.as_slice-2.result.now c.as_slice-3.result.now (map seen_read c.as_slice-4.result.now) (c.as_slice.ensures.value ∙ e.reads) (c.as_slice-2.ensures.value ∙ e.writes) (c.as_slice-3.ensures.value ∙ e.writes) (ap (map seen_read) c.as_slice-4.ensures.value ∙ c.in_ok-reads.ensures) c.in_ok-add_reads.ensures c.in_ok-add_moves.ensures c.in_ok-add_writes.ensures ends)
