use Rattle.std.proofs.Common.{◌≡◌, ◌++◌, map, drop}
use Rattle.instr_effects.proofs.items.counted.widths_of.Given as goal

abbrev pub invariant-loop-v : goal.invariant-loop-v
invariant-loop-v l = l.made ++ map (λ v. v.1) (drop l.v-index l.values) ≡ map (λ v. v.1) l.values
