use Rattle.std.proofs.Common.{◌≡◌, ◌++◌, ◌-◌, map, length}
use Rattle.mir_meaning.specs.Items.{preserves}
use Rattle.std.specs.Prelude.{filter, not}
use Rattle.std.specs.List.{list_any}
use Rattle.mir_meaning.specs.Registers.{numbers}
use Rattle.meaning.specs.declared.types.Lane.TheVariants.{UnitLane}
use Rattle.instr_effects.proofs.items.results.unpreserved_units.Given as goal

abbrev pub invariant-loop-u : goal.invariant-loop-u
invariant-loop-u l = l.made ++ map UnitLane (filter (λ u. not (list_any (preserves l.t u) l.operands)) (numbers l.u (length l.t.units - l.u))) ≡ map UnitLane (filter (λ u. not (list_any (preserves l.t u) l.operands)) (numbers 0 (length l.t.units)))
