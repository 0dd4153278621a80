use Rattle.std.proofs.Common.{◌+◌, ◌-◌, arith, length}
use Rattle.mir_interp.specs.Holds.{held_by}
use Rattle.mir_interp.proofs.Writing.{turn_next}
use Rattle.mir_interp.proofs.machine.put_in_turn.Goals as goal

pub loop-k-preserved : goal.loop-k-preserved
loop-k-preserved g c = λ m env h.
    turn_next env c.args.results.now (held_by c.args.store.now) (held_by c.loop-k.store) (held_by c.set.new.self) c.args.writes.now (length c.args.writes.now - 1 - c.loop-k.k) (length c.args.writes.now - (c.loop-k.k + 1)) (length c.args.writes.now - c.loop-k.k) c.index-writes-i.result c.in_ok-value.value (omega arith) (omega arith) (omega arith) c.index-writes-i.is (c.loop-k.invariant m env h) (c.in_ok-value.ensures m env h) c.in_ok-set.ensures
