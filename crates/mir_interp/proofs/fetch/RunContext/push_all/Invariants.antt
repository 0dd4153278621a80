use Rattle.std.proofs.Common.{◌≡◌, ◌++◌, drop, ℕ}
use Rattle.meaning.specs.Environment.{Environment}
use Rattle.meaning.specs.State.{values}
use Rattle.meaning.specs.Perform.{all_lanes}
use Rattle.mir_interp.specs.Holds.{held_by}
use Rattle.mir_interp.specs.Stands.{Stands, given_by}
use Rattle.mir_interp.proofs.fetch.RunContext.push_all.Given as goal

abbrev pub invariant-loop-sources : goal.invariant-loop-sources
invariant-loop-sources g l = (n : ℕ) (env : Environment) → Stands (given_by g.W.World.entry g.W.World.byte g.W.World.frame g.W.World.symbol g.W.World.answer l.self.world.now) l.self.symbols.now n env → l.out ++ all_lanes (values env (held_by l.store) (drop l.sources-index l.reads)) ≡ l.initial.out ++ all_lanes (values env (held_by l.store) l.reads)
