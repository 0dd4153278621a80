use Rattle.std.proofs.Common.{◌≡◌, drop, ℕ}
use Rattle.meaning.specs.Environment.{Environment}
use Rattle.meaning.specs.Perform as meaning
use Rattle.meaning.specs.Code.{Code, Goes, walk}
use Rattle.mir_interp.specs.Decoded.{code_of_steps}
use Rattle.mir_interp.specs.Holds.{held_by}
use Rattle.mir_interp.specs.Stands.{Stands, given_by}
use Rattle.mir_interp.proofs.machine.advance.Given as goal

abbrev pub invariant-loop-k : goal.invariant-loop-k
invariant-loop-k g l = (m : ℕ) (env : Environment) → Stands (given_by g.W.World.entry g.W.World.byte g.W.World.frame g.W.World.symbol g.W.World.answer l.around.world.now) l.around.symbols.now m env → (code : Code) (next : Goes) (o : meaning.Outside) → walk env code next (drop l.k (code_of_steps l.steps)) (held_by l.store) o ≡ walk env code next (drop l.at (code_of_steps l.steps)) (held_by l.initial.store) o
