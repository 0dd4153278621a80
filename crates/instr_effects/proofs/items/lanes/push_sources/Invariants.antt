use Rattle.std.proofs.Common.{◌≡◌, ◌++◌, map, drop, cond}
use Rattle.meaning.specs.declared.types.Source.TheVariants.{FromLane, Undef}
use Rattle.instr_effects.proofs.items.lanes.push_sources.Given as goal

abbrev pub invariant-loop-l : goal.invariant-loop-l
invariant-loop-l l = l.out ++ map (cond l.undef (λ x. Undef) FromLane) (drop l.l-index l.lanes) ≡ l.initial.out ++ map (cond l.undef (λ x. Undef) FromLane) l.lanes
