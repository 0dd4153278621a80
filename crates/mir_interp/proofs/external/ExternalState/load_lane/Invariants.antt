use Rattle.std.proofs.Common.{◌≡◌, ◌-◌, ◌+◌, ℕ}
use Rattle.std.specs.Prelude.{Some}
use Rattle.meaning.specs.Perform.{joined, cut}
use Rattle.meaning.specs.Environment.{Environment}
use Rattle.meaning.specs.Perform.{all_lanes, loaded_bytes, loaded, stored_bytes, stored, answers}
use Rattle.meaning.specs.Perform as meaning
use Rattle.mir_interp.specs.Stands.{Stands, given_by}
use Rattle.mir_interp.specs.Remembers.{Remembers}
use Rattle.std.specs.Prelude.{List}
use Rattle.mir_interp.proofs.external.ExternalState.load_lane.Given as goal

abbrev pub invariant-loop-k : goal.invariant-loop-k
invariant-loop-k g l = (symbols : List (List ℕ)) (n : ℕ) (env : Environment) → Stands (given_by g.W.World.entry g.W.World.byte g.W.World.frame g.W.World.symbol g.W.World.answer l.world) symbols n env → (o : meaning.Outside) → Remembers env l.self o → loaded_bytes env o l.w (l.a + (l.count - l.k)) l.k ≡ Some l.number
