use Rattle.std.proofs.Common.{◌≡◌, ◌-◌, drop, length, map, ℕ, Some}
use Rattle.meaning.specs.Environment.{Environment}
use Rattle.meaning.specs.State.{fetch}
use Rattle.meaning.specs.Perform.{joined}
use Rattle.mir_interp.specs.Holds.{held_by}
use Rattle.mir_interp.specs.Stands.{Stands, given_by}
use Rattle.mir_interp.proofs.fetch.RunContext.join_sources.Given as goal

abbrev pub invariant-loop-k : goal.invariant-loop-k
invariant-loop-k g l = (n : ℕ) (env : Environment) → Stands (given_by g.W.World.entry g.W.World.byte g.W.World.frame g.W.World.symbol g.W.World.answer l.self.world.now) l.self.symbols.now n env → joined (drop (length l.widths - l.k) l.widths) (drop (length l.widths - l.k) (map (fetch env (held_by l.store)) l.sources)) ≡ Some l.number
