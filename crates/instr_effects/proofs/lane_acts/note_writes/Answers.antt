use Rattle.std.proofs.Common.{arith, ◌<◌, length}
use Rattle.instr_effects.specs.LaneActs.{act_on, write_at}
use Rattle.instr_effects.proofs.Loops.{get-same}
use Rattle.instr_effects.proofs.LaneActs.{writes-next}
use Rattle.instr_effects.proofs.lane_acts.note_writes.Goals as goal

pub writes-preserved : goal.writes-preserved
writes-preserved c =
    let h : c.writes.w-index < length c.args.writes.now = omega arith in
    record {
      told = λ k. writes-next (write_at k) (act_on c.args.acts.now.items k) (act_on c.writes.acts.items k) (act_on c.note_write.new.acts.items k) c.args.writes.now c.writes.w-index _ h (get-same c.args.writes.now c.writes.w-index _ _ h) (c.writes.invariant.told k) (c.in_ok-note_write.ensures.told k);
      once = λ o. c.in_ok-note_write.ensures.once (c.writes.invariant.once o);
    }
