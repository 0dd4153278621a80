use Rattle.std.proofs.Common.{◌≡◌, ◌-◌, drop, length}
use Rattle.meaning.specs.declared.types.Lane.{Lane}
use Rattle.mir_interp.specs.Holds.{held_by}
use Rattle.mir_interp.specs.Running.{put_in}
use Rattle.mir_interp.proofs.machine.put_all.Given as goal

abbrev pub invariant-loop-k : goal.invariant-loop-k
invariant-loop-k l = (a : Lane) → held_by l.store a ≡ put_in (drop (length l.writes - l.k) l.writes) (drop (length l.writes - l.k) l.values) (held_by l.initial.store) a
