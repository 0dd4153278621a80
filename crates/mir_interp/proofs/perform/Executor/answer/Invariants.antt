use Rattle.std.proofs.Common.{◌≡◌, ◌++◌, ◌<◌, ◌+◌, drop, ℕ}
use Rattle.meaning.specs.Environment.{Environment}
use Rattle.meaning.specs.Perform.{answers}
use Rattle.mir_interp.specs.Stands.{Stands, given_by}
use Rattle.mir_interp.proofs.perform.Executor.answer.Given as goal

abbrev pub invariant-loop-j : goal.invariant-loop-j
invariant-loop-j g l = (n : ℕ) (env : Environment) → Stands (given_by g.W.World.entry g.W.World.byte g.W.World.frame g.W.World.symbol g.W.World.answer l.self.around.now.world.now) l.self.around.now.symbols.now n env → l.call < n → l.lanes ++ answers env l.call (l.first + l.j) (drop l.j l.self.rest.now.result) ≡ answers env l.call l.first l.self.rest.now.result
