use Rattle.std.proofs.Common.{◌≡◌, length, map}
use Rattle.target_base.specs.Names.{are_distinct_numbers}
use Rattle.target_desc.proofs.rules.are_distinct_regs.Given as goal

abbrev pub invariant-regs : goal.invariant-regs
invariant-regs l = are_distinct_numbers (map (λ r. r.0) l.rs) ≡ are_distinct_numbers (map (λ r. r.0) l.rest)

abbrev pub decreases-regs : goal.decreases-regs
decreases-regs l = length l.rest
