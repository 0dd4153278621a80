use Rattle.std.proofs.Common.{◌≡◌, ◌++◌, drop, map, ℕ}
use Rattle.meaning.specs.Environment.{Environment}
use Rattle.meaning.specs.State.{fill}
use Rattle.mir_interp.specs.Holds.{held_by}
use Rattle.mir_interp.specs.Stands.{Stands, given_by}
use Rattle.mir_interp.proofs.machine.fills.Given as goal

abbrev pub invariant-loop-w : goal.invariant-loop-w
invariant-loop-w g l = (m : ℕ) (env : Environment) → Stands (given_by g.W.World.entry g.W.World.byte g.W.World.frame g.W.World.symbol g.W.World.answer l.around.world.now) l.around.symbols.now m env → l.values ++ map (λ w. fill env l.results (held_by l.store) w.fill) (drop l.w-index l.writes) ≡ map (λ w. fill env l.results (held_by l.store) w.fill) l.writes
