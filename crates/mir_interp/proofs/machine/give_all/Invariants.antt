use Rattle.std.proofs.Common.{◌≡◌, drop, ℕ}
use Rattle.std.specs.Prelude.{List, flat_map}
use Rattle.target_base.specs.Registers.{units_of}
use Rattle.meaning.specs.declared.types.Lane.{Lane}
use Rattle.meaning.specs.Environment.{Environment}
use Rattle.mir_interp.specs.Holds.{held_by}
use Rattle.mir_interp.specs.Running.{given_units}
use Rattle.mir_interp.specs.Stands.{Stands, given_by}
use Rattle.mir_interp.proofs.machine.give_all.Given as goal

abbrev pub invariant-loop-r : goal.invariant-loop-r
invariant-loop-r g l = (symbols : List (List ℕ)) (m : ℕ) (env : Environment) → Stands (given_by g.W.World.entry g.W.World.byte g.W.World.frame g.W.World.symbol g.W.World.answer l.world) symbols m env → (a : Lane) → given_units env l.t.units (flat_map (units_of l.t) (drop l.r-index l.regs)) (held_by l.store) a ≡ given_units env l.t.units (flat_map (units_of l.t) l.regs) (held_by l.initial.store) a
