use Rattle.std.proofs.Common.{ap, ap₂, ◌∙◌, ◌++◌, arith, ◌<◌, length}
use Rattle.instr_effects.specs.Runs.{run_numbers, one_kept, one_move}
use Rattle.instr_effects.proofs.Runs.{moved_at}
use Rattle.instr_effects.proofs.run.move_lanes.Goals as goal

pub lanes-preserved : goal.lanes-preserved
lanes-preserved c =
    let to = run_numbers c.args.to in
    let from = run_numbers c.args.from in
    let h : c.lanes.k < length to = omega (arith, c.lanes-test.true, c.len.ensures, c.len-2.ensures) in
    let g : c.lanes.k < length from = omega (arith, c.lanes-test.true, c.len.ensures, c.len-2.ensures) in
    let same = ap₂ (λ a b. (a, b)) c.number.ensures c.number-in-lanes.ensures in
    record {
      reads = c.in_ok-move_lane.ensures.reads ∙ ap (λ p. c.lanes.effects.reads.items ++ one_kept p) same ∙ moved_at one_kept c.args.effects.now.reads.items c.lanes.effects.reads.items to from c.lanes.k h g c.lanes.invariant.reads;
      writes = c.in_ok-move_lane.ensures.writes ∙ ap (λ p. c.lanes.effects.writes.items ++ one_move c.args.early p) same ∙ moved_at (one_move c.args.early) c.args.effects.now.writes.items c.lanes.effects.writes.items to from c.lanes.k h g c.lanes.invariant.writes;
    }
