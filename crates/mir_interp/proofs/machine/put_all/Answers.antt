use Rattle.std.proofs.Common.{◌+◌, ◌-◌, arith, length}
use Rattle.mir_interp.specs.Holds.{held_by}
use Rattle.mir_interp.proofs.Writing.{put_next}
use Rattle.mir_interp.proofs.machine.put_all.Goals as goal

pub loop-k-preserved : goal.loop-k-preserved
loop-k-preserved c = λ a.
    put_next c.args.writes.now c.args.values.now (held_by c.args.store.now) (held_by c.loop-k.store) (held_by c.set.new.self) (length c.args.writes.now - 1 - c.loop-k.k) (length c.args.writes.now - (c.loop-k.k + 1)) (length c.args.writes.now - c.loop-k.k) c.index-writes-i.result (omega arith) (omega arith) (omega arith) (omega arith) c.loop-k.invariant c.in_ok-set.ensures a
