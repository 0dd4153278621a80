use Rattle.std.proofs.Common.{◌<◌, ◌≤◌, ◌-◌, length}
use Rattle.alloc_check.specs.Asking.{asked_to}
use Rattle.alloc_check.specs.Families.{HoldsWith}
use Rattle.alloc_check.proofs.check.first_lacking.Given as goal

abbrev pub invariant-halves : goal.invariant-halves
invariant-halves l = (l.low < l.high) × (l.high ≤ length l.rows) × HoldsWith l.t l.f l.g (asked_to l.low l.rows) × (HoldsWith l.t l.f l.g (asked_to l.high l.rows) → ⊥)

abbrev pub decreases-halves : goal.decreases-halves
decreases-halves l = l.high - l.low
