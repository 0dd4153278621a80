use Rattle.std.proofs.Common.{◌≡◌, drop}
use Rattle.std.specs.List.{list_any}
use Rattle.target_base.specs.Registers.{units_of}
use Rattle.interference.specs.Clashes.{IsOrdered, is_held_at, range_points, points_in}
use Rattle.interference.proofs.matrix.Matrix.free.Given as goal

-- what is left is held where all is
abbrev pub invariant-units : goal.invariant-units
invariant-units l = record {
  place : l.k ≡ l.u-index;
  rest : IsOrdered l.self → list_any (is_held_at l.self l.v) (range_points l.self.live.table l.v l.u-index (drop l.u-index (units_of l.self.live.target l.fn.p))) ≡ list_any (is_held_at l.self l.v) (points_in l.self l.v l.fn.p);
}
