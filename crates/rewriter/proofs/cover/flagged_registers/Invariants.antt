use Rattle.std.proofs.Common.{◌≡◌, ◌++◌, drop}
use Rattle.std.specs.Prelude.{filter}
use Rattle.machine_verify.specs.Liveins.{is_set}
use Rattle.rewriter.proofs.cover.flagged_registers.Given as goal

abbrev pub invariant-regs : goal.invariant-regs
invariant-regs l = l.made ++ filter (λ r. is_set l.flags r.0) (drop l.r-index l.rs) ≡ filter (λ r. is_set l.flags r.0) l.rs
