use Rattle.std.proofs.Common.{◌&&◌}
use Rattle.std.specs.Prelude.{nat_lt}
use Rattle.rewriter.specs.LiveUnits.{Marks, unit_enters}
use Rattle.rewriter.proofs.live_units.LiveUnits.mark_units.Given as goal

abbrev pub invariant-units : goal.invariant-units
invariant-units l = Marks (λ p w. nat_lt w l.k && unit_enters l.live.table w p) l.initial.self l.self
