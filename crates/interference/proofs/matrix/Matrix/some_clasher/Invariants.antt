use Rattle.std.proofs.Common.{◌≡◌, ℕ, drop}
use Rattle.target_base.specs.Registers.{units_of}
use Rattle.interference.specs.Clashes.{IsOrdered, are_taken, is_in_way, range_points}
use Rattle.interference.proofs.matrix.Matrix.some_clasher.Given as goal

-- what is in the way of all is in that of what is left
abbrev pub invariant-units : goal.invariant-units
invariant-units l = record {
  place : l.k ≡ l.u-index;
  rest : IsOrdered l.self → (w : ℕ) → are_taken l.self l.v (range_points l.self.live.table l.v l.u-index (drop l.u-index (units_of l.self.live.target l.fn.p))) w ≡ is_in_way l.self l.v l.fn.p w;
}
