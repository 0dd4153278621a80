use Rattle.std.proofs.Common.{◌+◌, ◌-◌, ◌≤◌, drop, ℕ}
use Rattle.meaning.specs.Environment.{Environment}
use Rattle.meaning.specs.Perform as meaning
use Rattle.meaning.specs.Code.{runs}
use Rattle.mir_interp.specs.Decoded.{code_of_steps}
use Rattle.mir_interp.specs.Holds.{held_by}
use Rattle.mir_interp.specs.Remembers.{Remembers}
use Rattle.mir_interp.specs.Running.{Continues}
use Rattle.mir_interp.specs.Stands.{Stands, given_by}
use Rattle.mir_interp.proofs.machine.go.Given as goal

abbrev pub invariant-loop-i : goal.invariant-loop-i
invariant-loop-i g l = (m : ℕ) (env : Environment) → Stands (given_by g.W.World.entry g.W.World.byte g.W.World.frame g.W.World.symbol g.W.World.answer l.around.world.now) l.around.symbols.now m env → (o : meaning.Outside) → Remembers env l.initial.machine.outside o → o.calls + l.n ≤ m → (q : meaning.Outside) × (Remembers env l.machine.outside q) × (q.calls ≤ o.calls + l.i) × (Continues l.initial.machine.events (runs env (code_of_steps l.steps) l.n (code_of_steps l.steps) (held_by l.initial.machine.store) o) l.machine.events (runs env (code_of_steps l.steps) (l.n - l.i) (drop l.at (code_of_steps l.steps)) (held_by l.machine.store) q))
