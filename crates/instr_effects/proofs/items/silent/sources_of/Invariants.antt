use Rattle.std.proofs.Common.{◌≡◌, ◌++◌, drop, map}
use Rattle.meaning.specs.declared.types.Source.TheVariants.{FromLane}
use Rattle.instr_effects.proofs.items.silent.sources_of.Given as goal

abbrev pub invariant-loop-l : goal.invariant-loop-l
invariant-loop-l l = l.made ++ map FromLane (drop l.l-index l.lanes) ≡ map FromLane l.lanes
