use Rattle.std.proofs.Common.{◌≡◌, ◌++◌, map, drop}
use Rattle.instr_effects.proofs.items.counted.reads_of.Given as goal

abbrev pub invariant-loop-v : goal.invariant-loop-v
invariant-loop-v l = l.made ++ map (λ v. v.0) (drop l.v-index l.values) ≡ map (λ v. v.0) l.values
