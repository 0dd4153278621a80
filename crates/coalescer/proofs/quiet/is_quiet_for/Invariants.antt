use Rattle.std.proofs.Common.{◌<◌, ℕ}
use Rattle.coalescer.specs.Asked.{IsQuietLane}
use Rattle.coalescer.specs.Coalescing.{MayCoalesce}
use Rattle.coalescer.proofs.quiet.is_quiet_for.Given as goal

abbrev pub invariant-lanes : goal.invariant-lanes
invariant-lanes l = MayCoalesce l.target l.live → (i : ℕ) → i < l.k → IsQuietLane l.target l.live l.join l.v i
