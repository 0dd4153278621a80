use Rattle.std.proofs.Common.{◌≡◌, take}
use Rattle.std.specs.Prelude.{filter}
use Rattle.place_solve.specs.Choice.{use_of, need_of, stands_beside}
use Rattle.place_solve.proofs.domains.left_of.Given as goal

abbrev pub invariant-each : goal.invariant-each
invariant-each l = l.made ≡ filter (λ p. stands_beside l.target (use_of l.kind) p (need_of l.w, l.q)) (take l.r-index l.regs)
