use Rattle.std.proofs.Common.{◌≡◌, drop, ℕ}
use Rattle.std.specs.Prelude.{List}
use Rattle.meaning.specs.declared.types.Lane.{Lane}
use Rattle.meaning.specs.Environment.{Environment}
use Rattle.mir_interp.specs.Holds.{held_by}
use Rattle.mir_interp.specs.Running.{given_units}
use Rattle.mir_interp.specs.Stands.{Stands, given_by}
use Rattle.mir_interp.proofs.machine.give.Given as goal

abbrev pub invariant-loop-u : goal.invariant-loop-u
invariant-loop-u g l = (symbols : List (List ℕ)) (m : ℕ) (env : Environment) → Stands (given_by g.W.World.entry g.W.World.byte g.W.World.frame g.W.World.symbol g.W.World.answer l.world) symbols m env → (a : Lane) → given_units env l.t.units (drop l.u-index l.units) (held_by l.store) a ≡ given_units env l.t.units l.units (held_by l.initial.store) a
