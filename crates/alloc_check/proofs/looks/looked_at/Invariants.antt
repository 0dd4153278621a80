use Rattle.std.proofs.Common.{◌≡◌, ◌++◌, map, drop}
use Rattle.meaning.specs.declared.types.Source.TheVariants.{FromLane}
use Rattle.mir_meaning.specs.Registers.{unit_lanes}
use Rattle.alloc_check.proofs.looks.looked_at.Given as goal

abbrev pub invariant-loop-u : goal.invariant-loop-u
invariant-loop-u l = l.sources ++ map FromLane (unit_lanes (drop l.u-index l.units)) ≡ map FromLane (unit_lanes l.units)
