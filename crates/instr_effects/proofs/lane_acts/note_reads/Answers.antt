use Rattle.std.proofs.Common.{arith, ◌<◌, length}
use Rattle.instr_effects.specs.LaneActs.{act_on, read_at}
use Rattle.instr_effects.proofs.Loops.{get-same}
use Rattle.instr_effects.proofs.LaneActs.{reads-next}
use Rattle.instr_effects.proofs.lane_acts.note_reads.Goals as goal

pub reads-preserved : goal.reads-preserved
reads-preserved c =
    let h : c.reads.lane-index < length c.args.reads.now = omega arith in
    record {
      told = λ k. reads-next (read_at k) (act_on c.args.acts.now.items k) (act_on c.reads.acts.items k) (act_on c.note_read.new.acts.items k) c.args.reads.now c.reads.lane-index _ h (get-same c.args.reads.now c.reads.lane-index _ _ h) (c.reads.invariant.told k) (c.in_ok-note_read.ensures.told k);
      once = λ o. c.in_ok-note_read.ensures.once (c.reads.invariant.once o);
    }
