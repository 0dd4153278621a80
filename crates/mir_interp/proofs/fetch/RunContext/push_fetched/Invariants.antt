use Rattle.std.proofs.Common.{◌≡◌, ◌++◌, map, drop, ℕ}
use Rattle.meaning.specs.Environment.{Environment}
use Rattle.meaning.specs.State.{fetch}
use Rattle.mir_interp.specs.Holds.{held_by}
use Rattle.mir_interp.specs.Stands.{Stands, given_by}
use Rattle.mir_interp.proofs.fetch.RunContext.push_fetched.Given as goal

abbrev pub invariant-loop-s : goal.invariant-loop-s
invariant-loop-s g l = (n : ℕ) (env : Environment) → Stands (given_by g.W.World.entry g.W.World.byte g.W.World.frame g.W.World.symbol g.W.World.answer l.self.world.now) l.self.symbols.now n env → l.out ++ map (fetch env (held_by l.store)) (drop l.s-index l.sources) ≡ l.initial.out ++ map (fetch env (held_by l.store)) l.sources
