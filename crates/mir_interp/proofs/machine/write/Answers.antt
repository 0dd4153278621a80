use Rattle.std.proofs.Common.{◌∙◌, sym, inl, inr}
use Rattle.mir_interp.specs.Holds.{held_by}
use Rattle.mir_interp.proofs.Writing.{turn_written, written_by}
use Rattle.mir_interp.proofs.machine.write.Goals as goal
use Rattle.mir_interp.proofs.machine.write.Goals.{then-writes-lt2-via-then-writes-lt2, then-writes-lt2-via-else-writes-lt2+then-read_no_lane}

pub returns-then-writes-lt2 : goal.returns-then-writes-lt2
returns-then-writes-lt2 g c = λ m env h.
    c.in_ok-put_in_turn.ensures m env h
    ∙ turn_written env c.args.results.now (held_by c.args.store.now) c.args.writes.now (elim c.then-writes-lt2.branch [
      | then-writes-lt2-via-then-writes-lt2 w ↦ inl w.if-writes-lt2.true
      | then-writes-lt2-via-else-writes-lt2+then-read_no_lane w ↦ inr (sym w.read_no_lane.ensures ∙ w.if-read_no_lane.true)
    ])

pub returns : goal.returns
returns g c = λ m env h. written_by env c.args.results.now (held_by c.args.store.now) (held_by c.put_all.new.store) c.args.writes.now c.in_ok-values.values c.as_slice-given.result.now c.as_slice-given.ensures (c.in_ok-values.ensures m env h) c.in_ok-put_all.ensures
