use Rattle.std.proofs.Common.{◌≡◌, ◌∙◌, length, arith, ap}
use Rattle.std.specs.List.{list_all, range_with_len}
use Rattle.target_base.specs.Registers.{widths_of_some}
use Rattle.mir_meaning.specs.Registers.{has_number}
use Rattle.two_address.specs.Sequences.{filled_lanes}
use Rattle.two_address.proofs.Parts.{lane_kept, lane_lost, lane_count}
use Rattle.two_address.proofs.sequences.fill_all.Goals as goal

pub lanes-preserved : goal.lanes-preserved
lanes-preserved c =
    lane_kept c.args.target.now c.args.parts.now c.lanes.lane _ c.is_missing.result _ (omega arith) c.is_missing.ensures c.if-is_missing.false c.lanes.invariant

pub returns-then-is_missing : goal.returns-then-is_missing
returns-then-is_missing c =
    let t = c.args.target.now in
    let units = rw (c.regs_at.ensures, c.as_slice.ensures, c.as_slice-2.ensures) at c.first_units-lanes.ensures in
    let n : length c.first_units-lanes.result.now ≡ length (widths_of_some t c.args.c) = ap length units ∙ lane_count t c.args.c in
    let lost = lane_lost t c.args.parts.now c.lanes.lane _ c.is_missing.result _ (omega arith) c.is_missing.ensures c.if-is_missing.true c.lanes.invariant in
    lost ∙ ap (λ k. list_all (has_number (filled_lanes t c.args.parts.now)) (range_with_len 0 k)) n
