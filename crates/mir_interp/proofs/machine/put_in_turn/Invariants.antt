use Rattle.std.proofs.Common.{◌≡◌, ◌-◌, drop, length, ℕ}
use Rattle.meaning.specs.Environment.{Environment}
use Rattle.mir_interp.specs.Holds.{held_by}
use Rattle.mir_interp.specs.Running.{put_in_turn}
use Rattle.mir_interp.specs.Stands.{Stands, given_by}
use Rattle.mir_interp.proofs.machine.put_in_turn.Given as goal

abbrev pub invariant-loop-k : goal.invariant-loop-k
invariant-loop-k g l = (m : ℕ) (env : Environment) → Stands (given_by g.W.World.entry g.W.World.byte g.W.World.frame g.W.World.symbol g.W.World.answer l.around.world.now) l.around.symbols.now m env → held_by l.store ≡ put_in_turn env l.results (drop (length l.writes - l.k) l.writes) (held_by l.initial.store)
