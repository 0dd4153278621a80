use Rattle.std.proofs.Common.{◌≡◌, drop, ℕ}
use Rattle.meaning.specs.Environment.{Environment}
use Rattle.meaning.specs.Perform.{lacks}
use Rattle.meaning.specs.State.{values}
use Rattle.mir_interp.specs.Holds.{held_by}
use Rattle.mir_interp.specs.Stands.{Stands, given_by}
use Rattle.mir_interp.proofs.perform.Executor.lacks.Given as goal

abbrev pub invariant-loop-k : goal.invariant-loop-k
invariant-loop-k g l = (n : ℕ) (env : Environment) → Stands (given_by g.W.World.entry g.W.World.byte g.W.World.frame g.W.World.symbol g.W.World.answer l.self.around.now.world.now) l.self.around.now.symbols.now n env → lacks l.self.rest.now.needed (values env (held_by l.self.store.now) l.self.reads.now) ≡ lacks (drop l.k l.self.rest.now.needed) (drop l.k (values env (held_by l.self.store.now) l.self.reads.now))
